-- Lanes and lines that keep their limit and have only what passes a test: with more, and with less.
-- Assumes nothing.
use mathlib.Core.Bool.{Bool, true, false}
use mathlib.Core.List.{List, [], ◌∷◌, ◌++◌, map}
use mathlib.Core.Path.{◌≡◌, refl}
use Prim.Native.Nat.{ℕ, ◌≤◌}
use native.Mathlib.Omega.{arith}
use lib.Dec.{leb}
use lib.ListN.{length, length-append}
use borrow.Author.Tests.{le-leb, leb-true, ltb-false}
use Rattle.lists.specs.Search.{all}
use Rattle.lists.proofs.Searches.{all_append, all_right}
use Rattle.lists.proofs.Tests.{and_left, and_right, and_both}
use Rattle.units.specs.declared.Units.{Units}
use Rattle.plain.specs.InRange.{goes_down}
use Rattle.plain.specs.Lanes.{keeps, passes}
use Rattle.plain.specs.declared.Message.TheVariants.{Grant}

module _ {A : Type 0} (limit : ℕ) (f : A → Bool) where
  -- more at the end, where that does not pass the limit
  pub keeps-more : (l more : List A) → keeps limit f l ≡ true → all f more ≡ true → passes limit (l ++ more) ≡ false → keeps limit f (l ++ more) ≡ true
  unfolding keeps
  keeps-more l more e passed room =
      and_both (le-leb (length (l ++ more)) limit (ltb-false limit (length (l ++ more)) room))
      (all_append f l more (and_right (leb (length l) limit) (all f l) e) passed)

  -- all of it, where it does not pass the limit
  pub keeps-room : (l : List A) → all f l ≡ true → passes limit l ≡ false → keeps limit f l ≡ true
  unfolding keeps
  keeps-room l passed room = and_both (le-leb (length l) limit (ltb-false limit (length l) room)) passed

  -- less at the front
  pub keeps-rest : (l rest : List A) → keeps limit f (l ++ rest) ≡ true → keeps limit f rest ≡ true
  unfolding keeps
  keeps-rest l rest e =
      let short = leb-true (length (l ++ rest)) limit (and_left (leb (length (l ++ rest)) limit) (all f (l ++ rest)) e) in
      and_both (le-leb (length rest) limit (omega (arith, length-append l rest)))
      (all_right f l rest (and_right (leb (length (l ++ rest)) limit) (all f (l ++ rest)) e))

  -- its length keeps the limit
  pub keeps-short : (l : List A) → keeps limit f l ≡ true → length l ≤ limit
  unfolding keeps
  keeps-short l e = leb-true (length l) limit (and_left (leb (length l) limit) (all f l) e)

  -- what is in it passes the test
  pub keeps-all : (l : List A) → keeps limit f l ≡ true → all f l ≡ true
  unfolding keeps
  keeps-all l e = and_right (leb (length l) limit) (all f l) e

  pub keeps_first : (x : A) (l : List A) → keeps limit f (x ∷ l) ≡ true → f x ≡ true
  keeps_first x l e = and_left (f x) (all f l) (keeps-all (x ∷ l) e)

pub grants-down : (us : List Units) → all goes_down (map (λ h. Grant) us) ≡ true
unfolding goes_down
grants-down [] = refl
grants-down (u ∷ us) = grants-down us
