-- The quorums without a station, and their places in the table.
-- Assumes nothing.
use mathlib.Core.Bool.{Bool, true, false}
use mathlib.Core.List.{List, [], ◌∷◌}
use mathlib.Core.Path.{◌≡◌, refl, sym, ◌∙◌}
use Prim.Native.Nat.{ℕ, zero, suc, ◌<◌}
use native.Mathlib.Omega.{arith}
use lib.ListN.{length}
use Rattle.stations.specs.Member.{member}
use Rattle.quorum.specs.Family.{quorum}
use Rattle.quorum.specs.Inner.Need.{without}

-- each of them is a quorum of the table
pub record Left (i : ℕ) (table : List ℕ) (p : ℕ) : Type 0 where
  pub number : ℕ
  pub lt : number < length table
  pub is : quorum table number ≡ quorum (without i table) p
  pub lacks : member (quorum table number) i ≡ false

pub left_at : (i : ℕ) (table : List ℕ) (p : ℕ) → p < length (without i table) → Left i table p
left_at i [] p h = absurd (omega arith)
left_at i (q ∷ table) p h = go (member q i) refl (left_at i table)
  where
    later : (r : ℕ) → quorum (without i (q ∷ table)) p ≡ quorum (without i table) r → Left i table r → Left i (q ∷ table) p
    later r e l = record { number = suc l.number; lt = omega (arith, l.lt); is = l.is ∙ sym e; lacks = l.lacks }

    here : (t : ℕ) → t ≡ p → member q i ≡ false → ((r : ℕ) → r < length (without i table) → Left i table r) → Left i (q ∷ table) p
    here zero e m rest = record { number = 0; lt = omega arith; is = rw (sym e, m); lacks = m }
    here (suc t) e m rest = later t (rw (sym e, m)) (rest t (omega (arith, rw (sym e, m) at h)))

    go : (t : Bool) → member q i ≡ t → ((r : ℕ) → r < length (without i table) → Left i table r) → Left i (q ∷ table) p
    go true m rest = later p (rw m) (rest p (rw m at h))
    go false m rest = here p refl m rest

-- and each quorum of the table without the station is one of them
pub left_has : (i : ℕ) (table : List ℕ) (r : ℕ) → r < length table → member (quorum table r) i ≡ false
    → (p : ℕ) × (p < length (without i table)) × (quorum (without i table) p ≡ quorum table r)
left_has i [] r h lacks = absurd (omega arith)
left_has i (q ∷ table) zero h lacks = (0, rw lacks (omega arith), rw lacks refl)
left_has i (q ∷ table) (suc r) h lacks = go (member q i) refl (left_has i table r (omega arith) lacks)
  where
    Place : List ℕ → Type 0
    Place few = (p : ℕ) × (p < length few) × (quorum few p ≡ quorum table r)

    go : (t : Bool) → member q i ≡ t → Place (without i table) → Place (without i (q ∷ table))
    go true m at = rw m at
    go false m at = rw m (suc at.0, omega (arith, at.1), at.2)
