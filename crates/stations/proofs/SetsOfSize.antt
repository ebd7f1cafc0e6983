-- All sets of one size: those without the highest station, then those with it. There are as many as `choose` says, each once.
-- Assumes nothing.
use mathlib.Core.Bool.{Bool, false}
use mathlib.Core.List.{List, [], ◌∷◌, ◌++◌, map, append-nil}
use mathlib.Core.Path.{◌≡◌, refl, sym, ap, ap₂, ◌∙◌}
use Prim.Native.Nat.{ℕ, zero, suc, ◌+◌, ◌^◌, ◌<◌}
use native.Mathlib.Omega.{arith}
use lib.Dec.{eqb}
use lib.Pow.{pow_pos}
use lib.ListN.{length, get_or, length-append, length-map}
use borrow.Author.Tests.{eqb-true, eq-eqb, ne_eqb}
use Rattle.lists.specs.Counting.{how_many, numbers_below}
use Rattle.lists.proofs.Counting.{numbers-length, numbers-add, numbers-same, numbers-none, numbers_hold, numbers_rise, numbers-all}
use Rattle.std.proofs.Math.Dec.{eqb-suc-suc}
use Rattle.stations.specs.Sets.{count_below, everyone}
use Rattle.stations.specs.Sizes.{sets_of, choose}
use Rattle.stations.proofs.Built.{count_top, count_under}
use Rattle.stations.proofs.Choosing.{choose-none}

-- twice as many sets: the first half without station n, the second with it
halves : (n s : ℕ) (more : ℕ → Bool) → ((q : ℕ) → q < 2 ^ n → eqb (suc (count_below q n)) s ≡ more q)
    → sets_of (suc n) s ≡ sets_of n s ++ map (λ q. 2 ^ n + q) (numbers_below more (2 ^ n))
unfolding sets_of
halves n s more same =
    let double : 2 ^ suc n ≡ 2 ^ n + 2 ^ n = omega arith in
    ap (numbers_below (λ q. eqb (count_below q (suc n)) s)) double
    ∙ numbers-add (λ q. eqb (count_below q (suc n)) s) (2 ^ n) (2 ^ n)
    ∙ ap₂ (λ (xs ys : List ℕ). xs ++ map (λ q. 2 ^ n + q) ys)
    (numbers-same _ (λ q. eqb (count_below q n) s) (2 ^ n) (λ q h. ap (λ (c : ℕ). eqb c s) (count_under n q h)))
    (numbers-same _ more (2 ^ n) (λ q h. ap (λ (c : ℕ). eqb c s) (count_top n q h) ∙ same q h))

pub sets_split : (n s : ℕ) → sets_of (suc n) (suc s) ≡ sets_of n (suc s) ++ map (λ q. 2 ^ n + q) (sets_of n s)
unfolding sets_of
sets_split n s = halves n (suc s) (λ q. eqb (count_below q n) s) (λ q h. eqb-suc-suc (count_below q n) s)

-- of size 0 the empty set alone
pub sets_zero : (n : ℕ) → sets_of n 0 ≡ 0 ∷ []
unfolding sets_of numbers_below how_many
sets_zero zero = refl
sets_zero (suc n) =
    halves n 0 (λ q. false) (λ q h. ne_eqb (suc (count_below q n)) 0 (λ e. omega arith))
    ∙ ap (λ (xs : List ℕ). sets_of n 0 ++ map (λ q. 2 ^ n + q) xs) (numbers-none (λ q. false) (2 ^ n) (λ q h. refl))
    ∙ append-nil (sets_of n 0) ∙ sets_zero n

nobody : (s : ℕ) → sets_of 0 (suc s) ≡ []
unfolding sets_of how_many
nobody s = numbers-none (λ q. eqb (count_below q 0) (suc s)) (2 ^ 0) (λ q h. ne_eqb 0 (suc s) (λ e. omega arith))

-- as many as there are such sets
pub sets_length : (n s : ℕ) → length (sets_of n s) ≡ choose n s
unfolding choose
sets_length n zero = rw (sets_zero n)
sets_length zero (suc s) = rw (nobody s)
sets_length (suc n) (suc s) =
    rw (sets_split n s)
    (length-append (sets_of n (suc s)) (map (λ q. 2 ^ n + q) (sets_of n s))
    ∙ ap₂ ◌+◌ (sets_length n (suc s)) (length-map (sets_of n s) (λ q. 2 ^ n + q) ∙ sets_length n s))

pub sets_many : (n s : ℕ) → how_many (λ q. eqb (count_below q n) s) (2 ^ n) ≡ choose n s
unfolding sets_of
sets_many n s = sym (numbers-length (λ q. eqb (count_below q n) s) (2 ^ n)) ∙ sets_length n s

-- of more stations than there are, no set
pub sets_none : (n s : ℕ) → n < s → sets_of n s ≡ []
sets_none n s h = empty (sets_of n s) (sets_length n s ∙ choose-none n s h)
  where
    empty : (xs : List ℕ) → length xs ≡ 0 → xs ≡ []
    empty [] e = refl
    empty (x ∷ xs) e = absurd (omega arith)

-- ---- who is listed

module _ (n s : ℕ) where
  -- what stands at a place is a set of s of the stations below n
  pub sets_hold : (p : ℕ) → p < length (sets_of n s) → (get_or (sets_of n s) p 0 < 2 ^ n) × (count_below (get_or (sets_of n s) p 0) n ≡ s)
  unfolding sets_of
  sets_hold p h =
      let (below, size) = numbers_hold (λ q. eqb (count_below q n) s) (2 ^ n) p h in
      (below, eqb-true (count_below (get_or (sets_of n s) p 0) n) s size)

  -- by ascending number
  pub sets_rise : (p q : ℕ) → p < q → q < length (sets_of n s) → get_or (sets_of n s) p 0 < get_or (sets_of n s) q 0
  unfolding sets_of
  sets_rise p q l h = numbers_rise (λ q. eqb (count_below q n) s) (2 ^ n) p q l h

  -- and each of them has a place
  pub sets_all : (q : ℕ) → q < 2 ^ n → count_below q n ≡ s → (p : ℕ) × (p < length (sets_of n s)) × (get_or (sets_of n s) p 0 ≡ q)
  unfolding sets_of
  sets_all q l e = numbers-all (λ q. eqb (count_below q n) s) (2 ^ n) q l (eq-eqb (count_below q n) s e)

-- of all stations the set of all alone
pub sets_whole : (n : ℕ) → sets_of n n ≡ everyone n ∷ []
sets_whole zero = sets_zero 0
sets_whole (suc n) =
    sets_split n n
    ∙ rw (sets_none n (suc n) (omega arith), sets_whole n)
    (ap (λ (q : ℕ). q ∷ []) (omega (arith, pow_pos n)))
