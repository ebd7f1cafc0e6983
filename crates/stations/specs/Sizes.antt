-- Sets of stations of one size: which they are, and how many.
use Rattle.std.specs.Prelude.{List, ℕ, zero, suc, ◌+◌, ◌^◌, eqb}
use Rattle.lists.specs.Counting.{numbers_below}
use Rattle.stations.specs.Sets.{count_below}

-- all sets of s of the stations below n, by ascending number
unfoldable pub sets_of : ℕ → ℕ → List ℕ
sets_of n s = numbers_below (λ q. eqb (count_below q n) s) (2 ^ n)

-- The number of ways to choose s of n stations, without the last of them or with it: so many such sets there are (laws `sets_length`, `sets_many`).
unfoldable pub choose : ℕ → ℕ → ℕ
choose n zero = 1
choose zero (suc s) = 0
choose (suc n) (suc s) = choose n (suc s) + choose n s
