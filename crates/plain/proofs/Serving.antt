-- What service makes of a line and of the units granted.
-- Assumes nothing.
use mathlib.Core.Bool.{Bool, true, false, cond}
use mathlib.Core.List.{List, [], ◌∷◌, ◌++◌}
use mathlib.Core.Logic.{by_cases, ⊎_elim}
use mathlib.Core.Path.{◌≡◌, refl, sym, ap, ◌∙◌}
use Prim.Native.Nat.{ℕ}
use native.Mathlib.Decide.{ℕ_discrete}
use lib.Dec.{eqb}
use borrow.Author.Tests.{eq-eqb, ne_eqb}
use Rattle.lists.specs.At.{at}
use Rattle.lists.proofs.Changed.{at_same, at_other}
use Rattle.std.proofs.lemmas.Bool.{cases_Bool}
use Rattle.units.specs.Units.{fits}
use Rattle.units.specs.declared.Units.{Units}
use Rattle.units.proofs.Amounts.{Within, within-fits}
use Rattle.plain.specs.Arbiter.{serve, units_in}
use Rattle.plain.specs.Lanes.{oldest}
use Rattle.plain.specs.declared.Entry.{Entry}
use Rattle.plain.proofs.Pairs.{last}

-- the units of a station in two lines joined
pub units-append : (s : ℕ) (a b : List Entry) → units_in s (a ++ b) ≡ units_in s a ++ units_in s b
unfolding units_in
units-append s [] b = refl
units-append s (e ∷ a) b = go (eqb e.station s) (units-append s a b)
  where
    go : (c : Bool) → units_in s (a ++ b) ≡ units_in s a ++ units_in s b
        → cond c (e.units ∷ units_in s (a ++ b)) (units_in s (a ++ b)) ≡ cond c (e.units ∷ units_in s a) (units_in s a) ++ units_in s b
    go true h = ap (λ (l : List Units). e.units ∷ l) h
    go false h = h

module _ (n : ℕ) (stock : Units) where
  -- the entries granted are the first of the line, and the others stay
  pub serve_splits : (g : ℕ → Units) (line : List Entry) → (serve n stock g line).grants ++ (serve n stock g line).arbiter.line ≡ line
  unfolding serve
  serve_splits g [] = refl
  serve_splits g (e ∷ line) =
      ⊎_elim (λ (t : fits n stock g e.units ≡ true). rw t (cc (serve_splits (at g e.station e.units) line)))
      (λ (f : fits n stock g e.units ≡ false). rw f)
      (cases_Bool (fits n stock g e.units))

  -- service ends where the line is empty or its first entry does not fit
  pub serve_ends : (g : ℕ → Units) (line : List Entry)
      → oldest (λ e. fits n stock (serve n stock g line).arbiter.granted e.units) (serve n stock g line).arbiter.line ≡ false
  unfolding serve
  serve_ends g [] = refl
  serve_ends g (e ∷ line) =
      ⊎_elim (λ (t : fits n stock g e.units ≡ true). rw t (serve_ends (at g e.station e.units) line)) (λ (f : fits n stock g e.units ≡ false). rw f f)
      (cases_Bool (fits n stock g e.units))

  -- a station has the units that it was granted last
  pub serve-grants : (g : ℕ → Units) (line : List Entry) (s : ℕ)
      → (serve n stock g line).arbiter.granted s ≡ last (g s) (units_in s (serve n stock g line).grants)
  unfolding serve units_in
  serve-grants g [] s = refl
  serve-grants g (e ∷ line) s =
      ⊎_elim (λ (t : fits n stock g e.units ≡ true). rw t (serve-grants (at g e.station e.units) line s ∙ go (units_in s (serve n stock (at g e.station e.units) line).grants)))
      (λ (f : fits n stock g e.units ≡ false). rw f)
      (cases_Bool (fits n stock g e.units))
    where
      go : (us : List Units) → last (at g e.station e.units s) us ≡ last (g s) (cond (eqb e.station s) (e.units ∷ us) us)
      go us =
          by_cases (ℕ_discrete e.station s)
          (λ (q : e.station ≡ s). rw (eq-eqb e.station s q) (ap (λ (x : Units). last x us) (ap (at g e.station e.units) (sym q) ∙ at_same g e.station e.units)))
          (λ (d : e.station ≡ s → ⊥). rw (ne_eqb e.station s d) (ap (λ (x : Units). last x us) (at_other g e.station e.units s (λ q. d (sym q)))))

  -- the units granted stay within the stock
  pub serve-stock : (g : ℕ → Units) (line : List Entry) → Within n stock g → Within n stock (serve n stock g line).arbiter.granted
  unfolding serve
  serve-stock g [] h = h
  serve-stock g (e ∷ line) h =
      ⊎_elim (λ (t : fits n stock g e.units ≡ true). rw t (serve-stock (at g e.station e.units) line (within-fits n stock g e.station e.units t)))
      (λ (f : fits n stock g e.units ≡ false). rw f h)
      (cases_Bool (fits n stock g e.units))
