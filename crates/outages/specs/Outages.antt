-- Which sets of working stations contain a whole quorum, and how many of each size.
use Rattle.std.specs.Prelude.{Bool, ◌&&◌, List, ℕ, ◌+◌, ◌^◌, eqb}
use Rattle.lists.specs.Counting.{how_many, each}
use Rattle.lists.specs.Search.{any}
use Rattle.stations.specs.Sets.{contains, count_below}

-- whether a set of working stations contains a whole quorum of the table
unfoldable pub works : List ℕ → ℕ → Bool
works table set = any (contains set) table

-- "the sets of exactly u working stations that contain a whole quorum": whether this one of the sets of n stations is among them
abbrev pub survives : ℕ → List ℕ → ℕ → ℕ → Bool
survives n table u set = eqb (count_below set n) u && works table set

-- how many they are, of all 2^n sets
unfoldable pub survivals : ℕ → List ℕ → ℕ → ℕ
survivals n table u = how_many (survives n table u) (2 ^ n)

-- "count, for each u from 0 to n, the sets of exactly u working stations that contain a whole quorum. The answer is n + 1 counts."
unfoldable pub counts : ℕ → List ℕ → List ℕ
counts n table = each (survivals n table) (n + 1)

-- "the number of station sets that contain a quorum"
unfoldable pub working_sets : ℕ → List ℕ → ℕ
working_sets n table = how_many (works table) (2 ^ n)
