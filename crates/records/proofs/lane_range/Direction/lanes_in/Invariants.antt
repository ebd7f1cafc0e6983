-- `records::lane_range::Direction::lanes_in` meets its contract. It holds of each before the one in hand.
-- Assumes nothing.
use mathlib.Core.Bool.{true}
use mathlib.Core.Path.{◌≡◌}
use lib.ListN.{take}
use Rattle.lists.specs.Search.{all}
use Rattle.records.specs.View.{lane_of}
use Rattle.records.specs.Inner.Ranges.{lane_in}
use Rattle.records.proofs.lane_range.Direction.lanes_in.Given as goal

abbrev pub invariant-loop-l : goal.invariant-loop-l
invariant-loop-l l = all (λ x. lane_in l.self (lane_of x)) (take l.l-index l.lanes) ≡ true
