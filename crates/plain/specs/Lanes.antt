-- Lanes and lines: their limits, and the place of what is new.
use Rattle.std.specs.Prelude.{Bool, true, false, ◌&&◌, List, [], ◌∷◌, ◌++◌, ℕ, leb, ltb, length}
use Rattle.lists.specs.Search.{all}

-- "an up lane of at most 4 messages"
abbrev pub up_places : ℕ
up_places = 4

-- "a down lane of at most 2"
abbrev pub down_places : ℕ
down_places = 2

-- "a line has at most 12 entries"
abbrev pub line_places : ℕ
line_places = 12

-- 14 "a lane or line would pass its limit"
abbrev pub no_place : ℕ
no_place = 14

module _ {A : Type 0} where
  -- whether a lane or line keeps its limit and has only what f holds of
  unfoldable pub keeps : ℕ → (A → Bool) → List A → Bool
  keeps limit f l = leb (length l) limit && all f l

  -- whether a lane or line passes its limit
  abbrev pub passes : ℕ → List A → Bool
  passes limit l = ltb limit (length l)

  -- "oldest first": a new message stands last
  abbrev pub sent : List A → A → List A
  sent lane m = lane ++ (m ∷ [])

  -- "lane empty"
  abbrev pub is_empty : List A → Bool
  is_empty [] = true
  is_empty (m ∷ rest) = false

  -- "the oldest message": whether f holds of it
  abbrev pub oldest : (A → Bool) → List A → Bool
  oldest f [] = false
  oldest f (m ∷ rest) = f m
