-- In range, for lanes of either direction: what document 01 says of lanes up and of lanes down.
use Rattle.std.specs.Prelude.{Bool, List, ℕ}
use Rattle.lists.specs.Search.{every_below}
use Rattle.plain.specs.InRange.{goes_up, goes_down}
use Rattle.plain.specs.Lanes.{up_places, down_places, keeps}
use Rattle.plain.specs.declared.Message.{Message}
use Rattle.records.specs.declared.lane_range.Direction.{Direction}
use Rattle.records.specs.declared.lane_range.Direction.TheVariants.{Up, Down}

-- whether a message may stand in a lane
abbrev pub goes : Direction → Message → Bool
goes (Up stock) = goes_up stock
goes Down = goes_down

-- a lane's limit
abbrev pub lane_places : Direction → ℕ
lane_places (Up _) = up_places
lane_places Down = down_places

-- whether a lane is in range; the lanes of one station; of all n stations
abbrev pub lane_in : Direction → List Message → Bool
lane_in direction lane = keeps (lane_places direction) (goes direction) lane

abbrev pub row_in : Direction → ℕ → (ℕ → List Message) → Bool
row_in direction n row = every_below (λ j. lane_in direction (row j)) n

abbrev pub lanes_in : Direction → ℕ → (ℕ → ℕ → List Message) → Bool
lanes_in direction n lanes = every_below (λ s. row_in direction n (lanes s)) n
