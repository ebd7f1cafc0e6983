-- The table of one station.
use Rattle.std.specs.Prelude.{not, List, [], ◌∷◌, ℕ, ◌^◌, leb, length}
use Rattle.lists.specs.Broken.{Test, ◌when◌, first_broken}
use Rattle.quorum.specs.Limits.{most_stations, up_to}
use Rattle.tables.specs.Made.{room_tests}

-- "Singleton (from n and a station): that station alone."
unfoldable pub singleton_table : ℕ → List ℕ
singleton_table station = 2 ^ station ∷ []

-- "Order of tests: 1 and 2 where n and k are given, 8, 17, 18, 16": 1 "n outside 1..12", 8 "station or arbiter ≥ n"
abbrev pub singleton_tests : ℕ → ℕ → ℕ → List Test
singleton_tests n station room = 1 when not (up_to most_stations n) ∷ 8 when leb n station ∷ room_tests (length (singleton_table station)) room

unfoldable pub singleton_refusal : ℕ → ℕ → ℕ → ℕ
singleton_refusal n station room = first_broken (singleton_tests n station room)
