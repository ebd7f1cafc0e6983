-- How many sets of one size have a given station: as many as there are ways to choose their other stations.
-- Assumes nothing.
use mathlib.Core.Bool.{Bool, ◌&&◌, and-true, and-false}
use mathlib.Core.Logic.{by_cases, ⊎_elim}
use mathlib.Core.Path.{◌≡◌, ap, ap₂, ◌∙◌}
use Prim.Native.Nat.{ℕ, zero, suc, ◌+◌, ◌^◌, ◌<◌}
use native.Mathlib.Decide.{ℕ_discrete}
use native.Mathlib.Nat.{zero-add}
use native.Mathlib.Omega.{arith}
use lib.Dec.{eqb}
use borrow.Author.Tests.{ne_eqb}
use Rattle.lists.specs.Counting.{how_many}
use Rattle.lists.proofs.Counting.{many_add, many_same, many_none, many_some}
use Rattle.std.proofs.lemmas.Bool.{cases_Bool}
use Rattle.std.proofs.Math.Dec.{eqb-suc-suc}
use Rattle.stations.specs.Member.{member}
use Rattle.stations.specs.Sets.{count_below}
use Rattle.stations.specs.Sizes.{choose}
use Rattle.stations.proofs.Built.{member_top, member_under, count_top, count_under}
use Rattle.stations.proofs.Members.{member_below}
use Rattle.stations.proofs.SetsOfSize.{sets_many}

-- the sets of s of the stations below n that have station i
abbrev with : ℕ → ℕ → ℕ → ℕ → Bool
with n s i q = eqb (count_below q n) s && member q i

-- none of them is of size 0
none_empty : (n i : ℕ) → i < n → how_many (with n 0 i) (2 ^ n) ≡ 0
none_empty n i h =
    many_none (with n 0 i) (2 ^ n)
    (λ q l. ⊎_elim (λ m. rw (ne_eqb (count_below q n) 0 (λ z. omega (arith, many_some (member q) n i h m)))) (λ m. rw m (and-false (eqb (count_below q n) 0))) (cases_Bool (member q i)))

-- one station more: the sets without the last, then those with it
halves : (n s i : ℕ) → how_many (with (suc n) (suc s) i) (2 ^ suc n) ≡ how_many (with n (suc s) i) (2 ^ n) + how_many (λ q. eqb (count_below q n) s && member (2 ^ n + q) i) (2 ^ n)
halves n s i =
    let double : 2 ^ suc n ≡ 2 ^ n + 2 ^ n = omega arith in
    ap (how_many (with (suc n) (suc s) i)) double
    ∙ many_add (with (suc n) (suc s) i) (2 ^ n) (2 ^ n)
    ∙ ap₂ ◌+◌ (many_same _ (with n (suc s) i) (2 ^ n) (λ q h. ap (λ (c : ℕ). eqb c (suc s) && member q i) (count_under n q h)))
    (many_same _ (λ q. eqb (count_below q n) s && member (2 ^ n + q) i) (2 ^ n) (λ q h. ap (λ (b : Bool). b && member (2 ^ n + q) i) (ap (λ (c : ℕ). eqb c (suc s)) (count_top n q h) ∙ eqb-suc-suc (count_below q n) s)))

module _ (n s i : ℕ) where
  -- the last station is in no set of the first half, and in all of the second
  last : i ≡ n → how_many (with n (suc s) i) (2 ^ n) + how_many (λ q. eqb (count_below q n) s && member (2 ^ n + q) i) (2 ^ n) ≡ choose n s
  last e =
      rw e
      (ap₂ ◌+◌ (many_none (with n (suc s) n) (2 ^ n) (λ q l. rw (member_below n q n l (omega arith)) (and-false (eqb (count_below q n) (suc s)))))
      (many_same _ (λ q. eqb (count_below q n) s) (2 ^ n) (λ q l. rw (member_top n q l) (and-true (eqb (count_below q n) s))) ∙ sets_many n s)
      ∙ zero-add (choose n s))

  -- an earlier one is in as many of the second half as it would be without the last station
  under : i < n → how_many (λ q. eqb (count_below q n) s && member (2 ^ n + q) i) (2 ^ n) ≡ how_many (with n s i) (2 ^ n)
  under h = many_same _ (with n s i) (2 ^ n) (λ q l. ap (λ (b : Bool). eqb (count_below q n) s && b) (member_under n q i h))

earlier : (n s i : ℕ) → i < suc n → ((t : ℕ) → how_many (with (suc n) (suc t) i) (2 ^ suc n) ≡ choose n t)
    → how_many (with (suc n) (suc s) i) (2 ^ suc n) + how_many (λ q. eqb (count_below q (suc n)) s && member (2 ^ suc n + q) i) (2 ^ suc n) ≡ choose (suc n) s
unfolding choose
earlier n zero i h fewer = ap₂ ◌+◌ (fewer zero) (under (suc n) zero i h ∙ none_empty (suc n) i h)
earlier n (suc s) i h fewer = ap₂ ◌+◌ (fewer (suc s)) (under (suc n) (suc s) i h ∙ fewer s)

-- of s + 1 of n + 1 stations
pub sets_with : (n s i : ℕ) → i < suc n → how_many (λ q. eqb (count_below q (suc n)) (suc s) && member q i) (2 ^ suc n) ≡ choose n s
sets_with zero s i h = halves zero s i ∙ last zero s i (omega arith)
sets_with (suc n) s i h =
    halves (suc n) s i
    ∙ by_cases (ℕ_discrete i (suc n)) (last (suc n) s i)
    (λ (d : i ≡ suc n → ⊥). let before : i < suc n = omega arith in earlier n s i before (λ t. sets_with n t i before))
