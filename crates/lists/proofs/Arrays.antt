-- An array of which the first places are in use, as a function: what a load reads, and what a store changes.
-- Assumes nothing.
use mathlib.Core.Bool.{Bool, true, false, cond}
use mathlib.Core.List.{List}
use mathlib.Core.Logic.{by_cases}
use mathlib.Core.Path.{◌≡◌, refl, ap, fun_ext}
use Prim.Native.Nat.{ℕ, zero, suc, ◌<◌}
use native.Mathlib.Decide.{ℕ_discrete}
use lib.Dec.{ltb}
use lib.ListN.{length, get_or, set, replicate}
use lib.Seq.{get_or-set_same, get_or-set_other}
use borrow.Author.Tests.{lt-ltb}
use Rattle.lists.specs.At.{at}
use Rattle.lists.specs.Search.{every_below}
use Rattle.lists.specs.Shown.{shown}
use Rattle.lists.proofs.Changed.{at_same, at_other}
use Rattle.lists.proofs.Searches.{every_same}

module _ {A B : Type 0} (n : ℕ) (none : B) (f : A → B) (d : A) where
  pub shown_in : (xs : List A) (i : ℕ) → i < n → shown n none f d xs i ≡ f (get_or xs i d)
  unfolding shown
  shown_in xs i h = rw (lt-ltb i n h)

  shown_elsewhere : (xs : List A) (a : ℕ) (x : A) (i : ℕ) → (i ≡ a → ⊥) → shown n none f d (set xs a x) i ≡ shown n none f d xs i
  unfolding shown
  shown_elsewhere xs a x i o = rw (get_or-set_other xs a i x d o)

  -- places that f sees as none
  pub shown-none : (xs : List A) → ((i : ℕ) → f (get_or xs i d) ≡ none) → shown n none f d xs ≡ (λ i. none)
  unfolding shown
  shown-none xs h = fun_ext (λ i. rw (h i) (either (ltb i n)))
    where
      either : (b : Bool) → cond b none none ≡ none
      either true = refl
      either false = refl

  -- a store at a place in use changes the function there
  pub shown-set : (xs : List A) (a : ℕ) (x : A) → a < n → a < length xs → shown n none f d (set xs a x) ≡ at (shown n none f d xs) a (f x)
  shown-set xs a x p q = fun_ext place
    where
      place : (i : ℕ) → shown n none f d (set xs a x) i ≡ at (shown n none f d xs) a (f x) i
      place i =
          by_cases (ℕ_discrete i a)
          (λ (e : i ≡ a). rw (e, at_same (shown n none f d xs) a (f x), shown_in (set xs a x) a p) (ap f (get_or-set_same xs a x d q)))
          (λ (o : i ≡ a → ⊥). rw (at_other (shown n none f d xs) a (f x) i o) (shown_elsewhere xs a x i o))

  -- a test of all places in use
  pub every_shown : (test : B → Bool) (xs : List A) → every_below (λ i. test (shown n none f d xs i)) n ≡ every_below (λ i. test (f (get_or xs i d))) n
  every_shown test xs = every_same _ _ n (λ i h. ap test (shown_in xs i h))

-- what holds of an element holds at every place of an array of it, and past its end if it holds of the default
pub replicate-all : {A : Type 0} (P : A → Type 0) (x d : A) → P x → P d → (m i : ℕ) → P (get_or (replicate m x) i d)
replicate-all P x d p q zero i = q
replicate-all P x d p q (suc m) zero = p
replicate-all P x d p q (suc m) (suc i) = replicate-all P x d p q m i
