-- Lists that are joined: stored, and read at a place.
-- Assumes nothing.
use mathlib.Core.List.{List, [], ◌∷◌, ◌++◌}
use mathlib.Core.Path.{◌≡◌, sym, ap, ◌∙◌}
use Prim.Native.Nat.{ℕ, suc, ◌+◌, ◌≤◌, ◌<◌}
use native.Mathlib.Nat.{add-zero, zero-add, add-suc, suc-add}
use native.Mathlib.Omega.{arith}
use lib.ListN.{length, get_or, set, drop}
use lib.Seq.{sets, sets-eq, drop-cons}

module _ {A : Type 0} where
  -- a run of stores, and another where it ends
  pub sets_append : (l : List A) (i : ℕ) (xs ys : List A) → sets l i (xs ++ ys) ≡ sets (sets l i xs) (i + length xs) ys
  sets_append l i [] ys = ap (λ (j : ℕ). sets l j ys) (sym (add-zero i))
  sets_append l i (x ∷ xs) ys =
      sets_append (set l i x) (suc i) xs ys
      ∙ ap (λ (j : ℕ). sets (sets (set l i x) (suc i) xs) j ys) (suc-add i (length xs) ∙ sym (add-suc i (length xs)))

  -- a run of stores from the front
  pub sets_front : (l xs : List A) → length xs ≤ length l → sets l 0 xs ≡ xs ++ drop (length xs) l
  sets_front l xs h = sets-eq xs l 0 (omega arith) ∙ ap (λ (j : ℕ). xs ++ drop j l) (zero-add (length xs))

-- ---- a list of numbers from place i on, four at a time

pub drop_four : (xs : List ℕ) (i : ℕ) → i + 4 ≤ length xs → drop i xs ≡ get_or xs i 0 ∷ get_or xs (i + 1) 0 ∷ get_or xs (i + 2) 0 ∷ get_or xs (i + 3) 0 ∷ drop (i + 4) xs
drop_four xs i h =
    next i (i + 1) (omega arith) (omega arith)
    ∙ ap (λ (l : List ℕ). get_or xs i 0 ∷ l)
    (next (i + 1) (i + 2) (omega arith) (omega arith)
    ∙ ap (λ (l : List ℕ). get_or xs (i + 1) 0 ∷ l)
    (next (i + 2) (i + 3) (omega arith) (omega arith) ∙ ap (λ (l : List ℕ). get_or xs (i + 2) 0 ∷ l) (next (i + 3) (i + 4) (omega arith) (omega arith))))
  where
    next : (p q : ℕ) → p < length xs → q ≡ suc p → drop p xs ≡ get_or xs p 0 ∷ drop q xs
    next p q l e = rw e (drop-cons xs p 0 l)
