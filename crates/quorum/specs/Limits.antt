-- The limits 1 to 4 of a table: its stations, its stock, its length and its quorums.
use Rattle.std.specs.Prelude.{Bool, not, ◌&&◌, ◌||◌, List, [], ◌∷◌, ℕ, ◌^◌, leb, eqb, length}
use Rattle.lists.specs.Broken.{Test, ◌when◌, first_broken}
use Rattle.lists.specs.Search.{any}

-- "n stations, 1 to 12"
abbrev pub most_stations : ℕ
most_stations = 12

-- "Stock k, 1 to 200 units"
abbrev pub most_units : ℕ
most_units = 200

-- "A table has 1 to 64 quorums"
abbrev pub most_quorums : ℕ
most_quorums = 64

-- whether x lies in 1..most
abbrev pub up_to : ℕ → ℕ → Bool
up_to most x = leb 1 x && leb x most

-- "a quorum empty or naming a station ≥ n": of the numbers, those from 2^n on name one (law `names_from_lem`)
abbrev pub out_of_place : ℕ → ℕ → Bool
out_of_place n q = eqb q 0 || leb (2 ^ n) q

-- 1 "n outside 1..12", 2 "k outside 1..200", 3 "quorums outside 1..64", 4 "a quorum empty or naming a station ≥ n"
abbrev pub limit_tests : ℕ → ℕ → List ℕ → List Test
limit_tests n k table =
    1 when not (up_to most_stations n)
    ∷ 2 when not (up_to most_units k)
    ∷ 3 when not (up_to most_quorums (length table))
    ∷ 4 when any (out_of_place n) table
    ∷ []

-- the first of the limits 1 to 4 that the table breaks, 0 if it keeps them all
unfoldable pub broken_limit : ℕ → ℕ → List ℕ → ℕ
broken_limit n k table = first_broken (limit_tests n k table)
