-- An array with a length beside it, read as a list: what a load reads, and what a store changes.
-- Assumes nothing.
use mathlib.Core.Bool.{Bool}
use mathlib.Core.List.{List, [], ◌∷◌, ◌++◌}
use mathlib.Core.Path.{◌≡◌, refl, sym, ap, ◌∙◌}
use Prim.Native.Nat.{ℕ, zero, suc, ◌+◌, ◌≤◌, ◌<◌}
use native.Mathlib.Nat.{add_comm, not-suc-le-zero, le_of_suc-le-suc}
use native.Mathlib.Numerals.{add-one}
use native.Mathlib.Omega.{arith}
use lib.ListN.{length, get_or, take, drop, set, length-drop, drop_of_length-le}
use lib.Seq.{ext_get_or, get_or-drop, drop-cons}
use Rattle.lists.specs.Cut.{cut}
use Rattle.lists.specs.Search.{all, every_below}
use Rattle.lists.proofs.Searches.{all_last}

module _ {A : Type 0} (d : A) where
  -- its length is the length beside it
  pub length_cut : (n : ℕ) (xs : List A) → length (cut d n xs) ≡ n
  length_cut zero xs = refl
  length_cut (suc n) [] = ap suc (length_cut n [])
  length_cut (suc n) (x ∷ xs) = ap suc (length_cut n xs)

  cut_push_suc : (n : ℕ) (xs : List A) (v : A) → n < length xs → cut d (suc n) (set xs n v) ≡ cut d n xs ++ (v ∷ [])
  cut_push_suc n [] v h = absurd (not-suc-le-zero h)
  cut_push_suc zero (x ∷ xs) v h = refl
  cut_push_suc (suc n) (x ∷ xs) v h = ap (λ (r : List A). x ∷ r) (cut_push_suc n xs v (le_of_suc-le-suc h))

  -- a store at the end, and the length one more
  pub cut_push : (n : ℕ) (xs : List A) (v : A) → n < length xs → cut d (n + 1) (set xs n v) ≡ cut d n xs ++ (v ∷ [])
  cut_push n xs v h = rw (add-one n) (cut_push_suc n xs v h)

  -- a load within the length
  pub get_or-cut : (n : ℕ) (xs : List A) (i : ℕ) → i < n → get_or (cut d n xs) i d ≡ get_or xs i d
  get_or-cut zero xs i h = absurd (not-suc-le-zero h)
  get_or-cut (suc n) [] zero h = refl
  get_or-cut (suc n) [] (suc i) h = get_or-cut n [] i (le_of_suc-le-suc h)
  get_or-cut (suc n) (x ∷ xs) zero h = refl
  get_or-cut (suc n) (x ∷ xs) (suc i) h = get_or-cut n xs i (le_of_suc-le-suc h)

  cut-suc : (n : ℕ) (xs : List A) → cut d (suc n) xs ≡ cut d n xs ++ (get_or xs n d ∷ [])
  cut-suc zero [] = refl
  cut-suc zero (x ∷ xs) = refl
  cut-suc (suc n) [] = ap (λ (r : List A). d ∷ r) (cut-suc n [])
  cut-suc (suc n) (x ∷ xs) = ap (λ (r : List A). x ∷ r) (cut-suc n xs)

  -- the length one more
  pub cut-more : (n : ℕ) (xs : List A) → cut d (n + 1) xs ≡ cut d n xs ++ (get_or xs n d ∷ [])
  cut-more n xs = rw (add-one n) (cut-suc n xs)

  -- what lies past the length does not matter
  pub cut-within : (n : ℕ) (xs ys : List A) → n ≤ length xs → cut d n (xs ++ ys) ≡ cut d n xs
  cut-within zero xs ys h = refl
  cut-within (suc n) [] ys h = absurd (not-suc-le-zero h)
  cut-within (suc n) (x ∷ xs) ys h = ap (λ (r : List A). x ∷ r) (cut-within n xs ys (le_of_suc-le-suc h))

  -- a length within the array
  pub cut-take : (n : ℕ) (xs : List A) → n ≤ length xs → cut d n xs ≡ take n xs
  cut-take zero xs h = refl
  cut-take (suc n) [] h = absurd (not-suc-le-zero h)
  cut-take (suc n) (x ∷ xs) h = ap (λ (r : List A). x ∷ r) (cut-take n xs (le_of_suc-le-suc h))

  pub cut_all : (xs : List A) → cut d (length xs) xs ≡ xs
  cut_all [] = refl
  cut_all (x ∷ xs) = ap (λ (r : List A). x ∷ r) (cut_all xs)

  -- a list, filled up to m places, of which as many are in use as it has elements
  pub cut_filled : (xs : List A) (m : ℕ) → length xs ≤ m → cut d (length xs) (cut d m xs) ≡ xs
  cut_filled [] m h = refl
  cut_filled (x ∷ xs) zero h = absurd (not-suc-le-zero h)
  cut_filled (x ∷ xs) (suc m) h = ap (λ (r : List A). x ∷ r) (cut_filled xs m (le_of_suc-le-suc h))

  -- an array that has what another has `by` places on
  pub cut_moved : (m by : ℕ) (ys xs : List A) → ((i : ℕ) → i < m → get_or ys i d ≡ get_or xs (i + by) d) → cut d m ys ≡ drop by (cut d (m + by) xs)
  cut_moved m by ys xs h =
      ext_get_or d (cut d m ys) (drop by (cut d (m + by) xs))
      (length_cut m ys ∙ sym (length-drop by (cut d (m + by) xs) ∙ (rw length_cut (omega arith))))
      (λ i p.
      let q : i < m = rw length_cut at p in
      let q' : by + i < m + by = omega arith in
      get_or-cut m ys i q ∙ h i q ∙ sym (get_or-drop by (cut d (m + by) xs) i d ∙ get_or-cut (m + by) xs (by + i) q' ∙ ap (λ (k : ℕ). get_or xs k d) (add_comm by i)))

  -- the rest of the list from a place within the length on
  pub drop-cut : (n : ℕ) (xs : List A) (i : ℕ) → i < n → drop i (cut d n xs) ≡ get_or xs i d ∷ drop (i + 1) (cut d n xs)
  drop-cut n xs i h =
      let h' : i < length (cut d n xs) = rw length_cut h in
      rw (add-one i) (drop-cons (cut d n xs) i d h' ∙ rw (get_or-cut n xs i h))

  pub drop-cut_end : (n : ℕ) (xs : List A) (i : ℕ) → n ≤ i → drop i (cut d n xs) ≡ []
  drop-cut_end n xs i h = drop_of_length-le (cut d n xs) {i = i} (rw length_cut h)

  -- a test of all elements is a test of all places
  pub all-cut : (f : A → Bool) (n : ℕ) (xs : List A) → all f (cut d n xs) ≡ every_below (λ i. f (get_or xs i d)) n
  all-cut f zero xs = refl
  all-cut f (suc n) xs = rw (cut-suc n xs, all_last f (cut d n xs) (get_or xs n d), all-cut f n xs)
