-- The table of a cube: stations that share a coordinate.
use Rattle.std.specs.Prelude.{Bool, not, ◌||◌, List, ◌∷◌, ℕ, zero, suc, ◌+◌, ◌*◌, ◌/◌, ◌%◌, ◌^◌, eqb, ltb, length}
use Rattle.lists.specs.Broken.{Test, ◌when◌, first_broken}
use Rattle.lists.specs.Counting.{each}
use Rattle.lists.specs.Search.{some_below}
use Rattle.stations.specs.Sets.{set_of}
use Rattle.quorum.specs.Limits.{most_stations, most_units, up_to}
use Rattle.tables.specs.Made.{room_tests}

-- "n = a^(k+1)"
abbrev pub cube_stations : ℕ → ℕ → ℕ
cube_stations a k = a ^ (k + 1)

-- the station "c0 + c1 × a + c2 × a² + …" of d coordinates
unfoldable pub station_at : ℕ → (ℕ → ℕ) → ℕ → ℕ
station_at a c zero = 0
station_at a c (suc d) = c d * a ^ d + station_at a c d

-- "station c0 + c1 × a + c2 × a² + … has coordinates c0, c1, …": of station p, the one of number i (laws `station_has`, `station_of_lem`)
unfoldable pub coordinate : ℕ → ℕ → ℕ → ℕ
coordinate a i p = p / a ^ i % a

-- whether the stations p and q agree in at least one of the first d coordinates
unfoldable pub agree : ℕ → ℕ → ℕ → ℕ → Bool
agree a d p q = some_below (λ i. eqb (coordinate a i p) (coordinate a i q)) d

-- "quorum p holds all stations that agree with station p in at least one coordinate"
unfoldable pub cube_quorum : ℕ → ℕ → ℕ → ℕ
cube_quorum a k p = set_of (agree a (k + 1) p) (cube_stations a k)

-- "Cube (from a and k) .. p ascending"
unfoldable pub cube_table : ℕ → ℕ → List ℕ
cube_table a k = each (cube_quorum a k) (cube_stations a k)

-- "cube with a = 0 or a^(k+1) > 12"
abbrev pub no_cube : ℕ → ℕ → Bool
no_cube a k = eqb a 0 || ltb most_stations (cube_stations a k)

-- "Order of tests: 1 and 2 where n and k are given, 8, 17, 18, 16": 2 "k outside 1..200", 17 as above
abbrev pub cube_tests : ℕ → ℕ → ℕ → List Test
cube_tests a k room = 2 when not (up_to most_units k) ∷ 17 when no_cube a k ∷ room_tests (length (cube_table a k)) room

unfoldable pub cube_refusal : ℕ → ℕ → ℕ → ℕ
cube_refusal a k room = first_broken (cube_tests a k room)
