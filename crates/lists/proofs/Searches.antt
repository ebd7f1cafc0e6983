-- Searches over lists that are joined or mapped, and tests over the numbers below a bound.
-- Assumes nothing.
use mathlib.Core.Bool.{Bool, true, false, ◌&&◌, ◌||◌, and_assoc, and-true, or_assoc, or-false}
use mathlib.Core.List.{List, [], ◌∷◌, ◌++◌, map}
use mathlib.Core.Logic.{◌⊎◌, ⊎_elim, by_cases}
use mathlib.Core.Path.{◌≡◌, refl, sym, ap, ap₂, ◌∙◌}
use Prim.Native.Nat.{ℕ, zero, suc, ◌+◌, ◌≤◌, ◌<◌}
use native.Mathlib.Decide.{ℕ_discrete}
use native.Mathlib.Numerals.{add-one}
use native.Mathlib.Omega.{arith}
use lib.Dec.{eqb}
use lib.ListN.{length, get_or}
use borrow.Author.Tests.{eq-eqb, ne_eqb}
use Rattle.lists.specs.Search.{any, all, first_of, every_below, some_below}
use Rattle.lists.proofs.Below.{below_suc}
use Rattle.lists.proofs.Tests.{clash, and_left, and_right, and_both}
use Rattle.std.proofs.lemmas.Bool.{cases_Bool, false_from_ne_true, or_parts, or_left, or_right, or_cases}

module _ {A : Type 0} where
  pub any_append : (f : A → Bool) (xs ys : List A) → any f (xs ++ ys) ≡ (any f xs || any f ys)
  any_append f [] ys = refl
  any_append f (x ∷ xs) ys = ap (λ (b : Bool). f x || b) (any_append f xs ys) ∙ sym (or_assoc (f x) (any f xs) (any f ys))

  -- a test that holds at a place, and a place where it holds
  pub any_at : (f : A → Bool) (d : A) (xs : List A) (i : ℕ) → i < length xs → f (get_or xs i d) ≡ true → any f xs ≡ true
  any_at f d [] i h t = absurd (omega arith)
  any_at f d (x ∷ xs) zero h t = or_left (f x) (any f xs) t
  any_at f d (x ∷ xs) (suc i) h t = or_right (f x) (any f xs) (any_at f d xs i (omega arith) t)

  pub any_found : (f : A → Bool) (d : A) (xs : List A) → any f xs ≡ true → (i : ℕ) × (i < length xs) × (f (get_or xs i d) ≡ true)
  any_found f d [] e = absurd (clash e refl)
  any_found f d (x ∷ xs) e =
      ⊎_elim (λ (t : f x ≡ true). (0, omega arith, t))
      (λ (t : any f xs ≡ true). let (i, h, t') = any_found f d xs t in (suc i, omega arith, t'))
      (or_cases (f x) (any f xs) e)

  -- every element: the one at a place
  pub all-at : (f : A → Bool) (d : A) (xs : List A) → all f xs ≡ true → (i : ℕ) → i < length xs → f (get_or xs i d) ≡ true
  all-at f d [] e i h = absurd (omega arith)
  all-at f d (x ∷ xs) e zero h = and_left (f x) (all f xs) e
  all-at f d (x ∷ xs) e (suc i) h = all-at f d xs (and_right (f x) (all f xs) e) i (omega arith)

  -- and all of them, or one that fails
  pub all_true : (f : A → Bool) (d : A) (xs : List A) → ((i : ℕ) → i < length xs → f (get_or xs i d) ≡ true) → all f xs ≡ true
  all_true f d [] h = refl
  all_true f d (x ∷ xs) h = and_both (h 0 (omega arith)) (all_true f d xs (λ i l. h (suc i) (omega arith)))

  pub all-false : (f : A → Bool) (d : A) (xs : List A) (i : ℕ) → i < length xs → f (get_or xs i d) ≡ false → all f xs ≡ false
  all-false f d xs i h e = false_from_ne_true (all f xs) (λ t. clash (all-at f d xs t i h) e)

  -- of two lists joined
  pub all_append : (f : A → Bool) (xs ys : List A) → all f xs ≡ true → all f ys ≡ true → all f (xs ++ ys) ≡ true
  all_append f [] ys p q = q
  all_append f (x ∷ xs) ys p q =
      and_both (and_left (f x) (all f xs) p) (all_append f xs ys (and_right (f x) (all f xs) p) q)

  pub all_right : (f : A → Bool) (xs ys : List A) → all f (xs ++ ys) ≡ true → all f ys ≡ true
  all_right f [] ys e = e
  all_right f (x ∷ xs) ys e = all_right f xs ys (and_right (f x) (all f (xs ++ ys)) e)

  pub all_last : (f : A → Bool) (xs : List A) (y : A) → all f (xs ++ (y ∷ [])) ≡ (all f xs && f y)
  all_last f [] y = and-true (f y)
  all_last f (x ∷ xs) y = ap (λ (b : Bool). f x && b) (all_last f xs y) ∙ sym (and_assoc (f x) (all f xs) (f y))

  -- the first of two lists joined: of the left one where that has any
  pub first_append_some : (f : A → Bool) (d : A) (xs ys : List A) → any f xs ≡ true → first_of f d (xs ++ ys) ≡ first_of f d xs
  first_append_some f d [] ys h = absurd (clash h refl)
  first_append_some f d (x ∷ xs) ys h =
      ⊎_elim (λ t. rw t) (λ e. rw e (first_append_some f d xs ys (rw e at h))) (cases_Bool (f x))

  pub first_append_none : (f : A → Bool) (d : A) (xs ys : List A) → any f xs ≡ false → first_of f d (xs ++ ys) ≡ first_of f d ys
  first_append_none f d [] ys h = refl
  first_append_none f d (x ∷ xs) ys h =
      let (e, rest) = or_parts (f x) (any f xs) h in rw e (first_append_none f d xs ys rest)

module _ {A B : Type 0} where
  pub any-map : (f : B → Bool) (g : A → B) (xs : List A) → any f (map g xs) ≡ any (λ (x : A). f (g x)) xs
  any-map f g [] = refl
  any-map f g (x ∷ xs) = ap (λ (b : Bool). f (g x) || b) (any-map f g xs)

  pub all_map : (f : B → Bool) (g : A → B) (xs : List A) → all f (map g xs) ≡ all (λ (x : A). f (g x)) xs
  all_map f g [] = refl
  all_map f g (x ∷ xs) = ap (λ (b : Bool). f (g x) && b) (all_map f g xs)

  pub first_map : (f : B → Bool) (g : A → B) (d : A) (e : B) (xs : List A) → any (λ (x : A). f (g x)) xs ≡ true
      → first_of f e (map g xs) ≡ g (first_of (λ (x : A). f (g x)) d xs)
  first_map f g d e [] h = absurd (clash h refl)
  first_map f g d e (x ∷ xs) h =
      ⊎_elim (λ t. rw t) (λ n. rw n (first_map f g d e xs (rw n at h))) (cases_Bool (f (g x)))

-- ---- numbers below a bound

pub every_true : (f : ℕ → Bool) (n : ℕ) → ((i : ℕ) → i < n → f i ≡ true) → every_below f n ≡ true
every_true f zero h = refl
every_true f (suc n) h = and_both (every_true f n (λ i p. h i (omega arith))) (h n (omega arith))

pub every_at : (f : ℕ → Bool) (n : ℕ) → every_below f n ≡ true → (i : ℕ) → i < n → f i ≡ true
every_at f zero e i h = absurd (omega arith)
every_at f (suc n) e i h =
    below_suc n (every_at f n (and_left (every_below f n) (f n) e)) (and_right (every_below f n) (f n) e) i h

pub every_false : (f : ℕ → Bool) (n i : ℕ) → i < n → f i ≡ false → every_below f n ≡ false
every_false f n i h e = false_from_ne_true (every_below f n) (λ t. clash (every_at f n t i h) e)

-- tests that agree below n
pub every_same : (f g : ℕ → Bool) (n : ℕ) → ((i : ℕ) → i < n → f i ≡ g i) → every_below f n ≡ every_below g n
every_same f g zero h = refl
every_same f g (suc n) h = ap₂ ◌&&◌ (every_same f g n (λ i p. h i (omega arith))) (h n (omega arith))

pub some_at : (f : ℕ → Bool) (n i : ℕ) → i < n → f i ≡ true → some_below f n ≡ true
some_at f zero i h t = absurd (omega arith)
some_at f (suc n) i h t =
    below_suc {P = λ j. f j ≡ true → some_below f (suc n) ≡ true} n
    (λ j p s. or_left (some_below f n) (f n) (some_at f n j p s)) (λ s. or_right (some_below f n) (f n) s) i h t

pub some-never : (f : ℕ → Bool) (n : ℕ) → some_below f n ≡ false → (i : ℕ) → i < n → f i ≡ false
some-never f n e i h = false_from_ne_true (f i) (λ t. clash (some_at f n i h t) e)

pub some_empty : (f : ℕ → Bool) (n : ℕ) → ((i : ℕ) → i < n → f i ≡ false) → some_below f n ≡ false
some_empty f zero h = refl
some_empty f (suc n) h = rw (h n (omega arith), some_empty f n (λ i p. h i (omega arith)))

pub some-found : (f : ℕ → Bool) (n : ℕ) → some_below f n ≡ true → (i : ℕ) × (i < n) × (f i ≡ true)
some-found f zero e = absurd (clash e refl)
some-found f (suc n) e =
    ⊎_elim (λ (t : some_below f n ≡ true). let (i, h, s) = some-found f n t in (i, omega arith, s))
    (λ (t : f n ≡ true). (n, omega arith, t))
    (or_cases (some_below f n) (f n) e)

-- one number more, of which f does not hold
pub some-none : (f : ℕ → Bool) (i : ℕ) → some_below f i ≡ false → f i ≡ false → some_below f (i + 1) ≡ false
some-none f i e n = rw (add-one i, e, n)

pub some_same : (f g : ℕ → Bool) (n : ℕ) → ((i : ℕ) → i < n → f i ≡ g i) → some_below f n ≡ some_below g n
some_same f g zero h = refl
some_same f g (suc n) h = ap₂ ◌||◌ (some_same f g n (λ i p. h i (omega arith))) (h n (omega arith))

-- the first number, and the others
pub some_first : (f : ℕ → Bool) (n : ℕ) → some_below f (suc n) ≡ (f 0 || some_below (λ i. f (suc i)) n)
some_first f zero = sym (or-false (f 0))
some_first f (suc n) = ap (λ (b : Bool). b || f (suc n)) (some_first f n) ∙ or_assoc (f 0) (some_below (λ i. f (suc i)) n) (f (suc n))

-- ---- a loop over the numbers from 0 on, below n, that goes on while f holds

-- the loop is at i, and f holds of every number before
pub record Tested (f : ℕ → Bool) (n i : ℕ) : Type 0 where
  pub within : i ≤ n
  pub every : every_below f i ≡ true

pub tested_none : (f : ℕ → Bool) (n : ℕ) → Tested f n 0
tested_none f n = record { within = omega arith; every = refl }

pub tested_more : {f : ℕ → Bool} {n i : ℕ} {b : Bool} → Tested f n i → i < n → b ≡ f i → b ≡ true → Tested f n (i + 1)
tested_more {f} {n} {i} t h p e = record { within = omega arith; every = rw (add-one i) (and_both t.every (sym p ∙ e)) }

-- left at i, by one of two ways: f holds of every number below n if i is n
pub tested_left : {A B : Type 0} {f : ℕ → Bool} {n i : ℕ} → Tested f n i → (A → f i ≡ false) → (B → n ≤ i) → A ⊎ B → eqb i n ≡ every_below f n
tested_left {A} {B} {f} {n} {i} t fails end w =
    by_cases (ℕ_discrete i n)
    (λ (e : i ≡ n). eq-eqb i n e ∙ sym (ap (every_below f) (sym e) ∙ t.every))
    (λ (o : i ≡ n → ⊥). ne_eqb i n o ∙ sym (⊎_elim (λ a. every_false f n i (let l = t.within in omega arith) (fails a)) (λ b. absurd (let l = t.within in let m = end b in omega arith)) w))
