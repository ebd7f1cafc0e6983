-- Nested tables.
use Rattle.std.specs.Prelude.{Bool, false, ◌||◌, List, [], ◌∷◌, ℕ}
use Rattle.lists.specs.Search.{any}
use Rattle.stations.specs.Sets.{contains}

-- whether one of two quorums contains or equals the other
abbrev pub comparable : ℕ → ℕ → Bool
comparable q p = contains q p || contains p q

-- "It is nested when one entry contains or equals another entry"
unfoldable pub nested : List ℕ → Bool
nested [] = false
nested (q ∷ table) = any (comparable q) table || nested table
