-- The numbers below a bound: how many pass a test, which they are, a value for each in a list, and the sum of the values.
use Rattle.std.specs.Prelude.{Bool, cond, List, [], ◌∷◌, ◌++◌, ℕ, zero, suc, ◌+◌}

-- how many numbers below n f holds of
unfoldable pub how_many : (ℕ → Bool) → ℕ → ℕ
how_many f zero = 0
how_many f (suc n) = cond (f n) 1 0 + how_many f n

-- the numbers below n that f holds of, ascending
unfoldable pub numbers_below : (ℕ → Bool) → ℕ → List ℕ
numbers_below f zero = []
numbers_below f (suc n) = numbers_below f n ++ cond (f n) (n ∷ []) []

-- the values of g at 0, 1, .. n - 1
unfoldable pub each : (ℕ → ℕ) → ℕ → List ℕ
each g zero = []
each g (suc n) = each g n ++ (g n ∷ [])

-- the sum of the values of g at 0, 1, .. n - 1
unfoldable pub total : (ℕ → ℕ) → ℕ → ℕ
total g zero = 0
total g (suc n) = g n + total g n
