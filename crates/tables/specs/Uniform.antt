-- The table of all sets of one size.
use Rattle.std.specs.Prelude.{not, List, ◌∷◌, ℕ, ◌+◌, ◌*◌, ◌/◌, length}
use Rattle.lists.specs.Broken.{Test, ◌when◌, first_broken}
use Rattle.stations.specs.Sizes.{sets_of}
use Rattle.quorum.specs.Limits.{most_stations, most_units, up_to}
use Rattle.tables.specs.Made.{room_tests}

-- "floor(k × n / (k + 1)) + 1 stations"
unfoldable pub uniform_size : ℕ → ℕ → ℕ
uniform_size n k = k * n / (k + 1) + 1

-- "Uniform (from n and k): all sets of floor(k × n / (k + 1)) + 1 stations, by ascending number."
unfoldable pub uniform_table : ℕ → ℕ → List ℕ
uniform_table n k = sets_of n (uniform_size n k)

-- "Order of tests: 1 and 2 where n and k are given, 8, 17, 18, 16": 1 "n outside 1..12", 2 "k outside 1..200"
abbrev pub uniform_tests : ℕ → ℕ → ℕ → List Test
uniform_tests n k room = 1 when not (up_to most_stations n) ∷ 2 when not (up_to most_units k) ∷ room_tests (length (uniform_table n k)) room

unfoldable pub uniform_refusal : ℕ → ℕ → ℕ → ℕ
uniform_refusal n k room = first_broken (uniform_tests n k room)
