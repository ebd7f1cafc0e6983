-- `records::lane_range::Direction::slots_in` meets its contract. It holds of each before the one in hand.
-- Assumes nothing.
use mathlib.Core.Bool.{true}
use mathlib.Core.Path.{◌≡◌}
use lib.ListN.{take}
use Rattle.lists.specs.Search.{all}
use Rattle.records.specs.View.{message_of}
use Rattle.records.specs.Inner.Ranges.{goes}
use Rattle.records.proofs.lane_range.Direction.slots_in.Given as goal

abbrev pub invariant-loop-slot : goal.invariant-loop-slot
invariant-loop-slot l = all (λ s. goes l.self (message_of s)) (take l.slot-index l.slots) ≡ true
