-- Tests over lists and over the numbers below a bound.
use Rattle.std.specs.Prelude.{Bool, true, false, cond, ◌&&◌, ◌||◌, List, [], ◌∷◌, ℕ, zero, suc}
use Rattle.std.specs.List.{list_any, list_all}

module _ {A : Type 0} where
  -- whether f holds of an element
  abbrev pub any : (A → Bool) → List A → Bool
  any f xs = list_any f xs

  -- whether f holds of every element
  abbrev pub all : (A → Bool) → List A → Bool
  all f xs = list_all f xs

  -- the first element that f holds of, d if there is none
  abbrev pub first_of : (A → Bool) → A → List A → A
  first_of f d [] = d
  first_of f d (x ∷ xs) = cond (f x) x (first_of f d xs)

-- whether f holds of every number below n
abbrev pub every_below : (ℕ → Bool) → ℕ → Bool
every_below f zero = true
every_below f (suc n) = every_below f n && f n

-- whether f holds of some number below n
abbrev pub some_below : (ℕ → Bool) → ℕ → Bool
some_below f zero = false
some_below f (suc n) = some_below f n || f n
