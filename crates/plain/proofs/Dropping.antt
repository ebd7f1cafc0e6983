-- A line without the entries of one station.
-- Assumes nothing.
use mathlib.Core.Bool.{Bool, true, false, cond}
use mathlib.Core.List.{List, [], ◌∷◌}
use mathlib.Core.Logic.{⊎_elim}
use mathlib.Core.Path.{◌≡◌, refl, sym, ap, ◌∙◌}
use Prim.Native.Nat.{ℕ, ◌≤◌}
use native.Mathlib.Omega.{arith}
use lib.Dec.{eqb}
use lib.ListN.{length}
use borrow.Author.Tests.{le-leb, ne_eqb, eqb-true}
use Rattle.lists.specs.Search.{all}
use Rattle.lists.proofs.Tests.{and_left, and_right, and_both}
use Rattle.std.proofs.lemmas.Bool.{cases_Bool}
use Rattle.units.specs.declared.Units.{Units}
use Rattle.plain.specs.Arbiter.{without, units_in}
use Rattle.plain.specs.Lanes.{keeps}
use Rattle.plain.specs.declared.Entry.{Entry}
use Rattle.plain.proofs.LanesInRange.{keeps-short, keeps-all}

module _ (s : ℕ) where
  -- ---- of its own units none are left, of every other station's all

  pub without_own : (line : List Entry) → units_in s (without s line) ≡ []
  unfolding without units_in
  without_own [] = refl
  without_own (e ∷ line) =
      ⊎_elim (λ (t : eqb e.station s ≡ true). rw t (without_own line)) (λ (f : eqb e.station s ≡ false). rw f (rw f (without_own line))) (cases_Bool (eqb e.station s))

  pub without-others : (t : ℕ) → (t ≡ s → ⊥) → (line : List Entry) → units_in t (without s line) ≡ units_in t line
  unfolding without units_in
  without-others t d [] = refl
  without-others t d (e ∷ line) =
      ⊎_elim (λ (o : eqb e.station s ≡ true). rw (o, ne_eqb e.station t (λ z. d (sym z ∙ eqb-true e.station s o))) (without-others t d line))
      (λ (f : eqb e.station s ≡ false). rw f (ap (λ (us : List Units). cond (eqb e.station t) (e.units ∷ us) us) (without-others t d line)))
      (cases_Bool (eqb e.station s))

  -- ---- it keeps what the line kept

  pub without-short : (line : List Entry) → length (without s line) ≤ length line
  unfolding without
  without-short [] = omega arith
  without-short (e ∷ line) =
      ⊎_elim (λ (t : eqb e.station s ≡ true). rw t (omega (arith, without-short line))) (λ (f : eqb e.station s ≡ false). rw f (omega (arith, without-short line)))
      (cases_Bool (eqb e.station s))

  pub without_all : (f : Entry → Bool) (line : List Entry) → all f line ≡ true → all f (without s line) ≡ true
  unfolding without
  without_all f [] h = refl
  without_all f (e ∷ line) h =
      let rest = without_all f line (and_right (f e) (all f line) h) in
      ⊎_elim (λ (t : eqb e.station s ≡ true). rw t rest) (λ (d : eqb e.station s ≡ false). rw d (and_both (and_left (f e) (all f line) h) rest)) (cases_Bool (eqb e.station s))

  pub keeps-without : (limit : ℕ) (f : Entry → Bool) (line : List Entry) → keeps limit f line ≡ true → keeps limit f (without s line) ≡ true
  unfolding keeps
  keeps-without limit f line h =
      and_both (le-leb (length (without s line)) limit (omega (arith, without-short line, keeps-short limit f line h))) (without_all f line (keeps-all limit f line h))
