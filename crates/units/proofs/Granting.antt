-- The units granted to each station: what a load reads, what a store changes, and that there is nothing past the array's end.
-- Assumes nothing.
use mathlib.Core.Bool.{Bool, true, false, cond}
use mathlib.Core.List.{List}
use mathlib.Core.Path.{◌≡◌, refl, ap}
use Prim.Native.Nat.{ℕ, ◌≤◌, ◌<◌}
use native.Mathlib.Omega.{arith}
use lib.Dec.{ltb}
use lib.ListN.{length, get_or, set, get_or-eq_default}
use Rattle.lists.specs.At.{at}
use Rattle.lists.specs.Counting.{total}
use Rattle.lists.proofs.Arrays.{shown_in, shown-set}
use Rattle.lists.proofs.Totals.{total_past}
use Rattle.lists.specs.Shown.{shown}
use Rattle.units.specs.Granted.{granted_of}
use Rattle.units.specs.Units.{no_units}
use Rattle.units.specs.declared.Units.{Units}

module _ (n : ℕ) (granted : List Units) where
  pub granted-at : (s : ℕ) → s < n → granted_of n granted s ≡ get_or granted s no_units
  unfolding granted_of
  granted-at s h = shown_in n no_units (λ u. u) no_units granted s h

  pub granted_with : (s : ℕ) (u : Units) → s < n → s < length granted → granted_of n (set granted s u) ≡ at (granted_of n granted) s u
  unfolding granted_of
  granted_with s u h q = shown-set n no_units (λ u. u) no_units granted s u h q

  granted_past : (s : ℕ) → length granted ≤ s → granted_of n granted s ≡ no_units
  unfolding granted_of shown
  granted_past s h = rw (get_or-eq_default granted no_units h) (go (ltb s n))
    where
      go : (b : Bool) → cond b no_units no_units ≡ no_units
      go true = refl
      go false = refl

  -- so the stations past it add nothing to a sum
  pub granted-total : (v : Units → ℕ) → v no_units ≡ 0 → (m : ℕ) → m ≤ n → (m < n → length granted ≤ m)
      → total (λ s. v (granted_of n granted s)) n ≡ total (λ s. v (granted_of n granted s)) m
  granted-total v none m h past =
      total_past (λ s. v (granted_of n granted s)) m n h (λ s l b. let e = ap v (granted_past s (omega (arith, past (omega arith)))) in omega arith)
