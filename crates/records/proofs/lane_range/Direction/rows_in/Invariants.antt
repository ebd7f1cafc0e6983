-- `records::lane_range::Direction::rows_in` meets its contract. It holds of each before the one in hand.
-- Assumes nothing.
use mathlib.Core.Bool.{true}
use mathlib.Core.Path.{◌≡◌}
use lib.ListN.{take}
use Rattle.lists.specs.Search.{all}
use Rattle.records.specs.View.{row_of}
use Rattle.records.specs.Inner.Ranges.{row_in}
use Rattle.records.proofs.lane_range.Direction.rows_in.Given as goal

abbrev pub invariant-loop-w : goal.invariant-loop-w
invariant-loop-w l = all (λ w. row_in l.self l.b.stations (row_of l.b.stations w)) (take l.w-index l.rows) ≡ true
