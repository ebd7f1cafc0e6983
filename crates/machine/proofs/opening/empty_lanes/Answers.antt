-- `machine::opening::empty_lanes` meets its contract. Every lane has length 0.
-- Assumes nothing.
use Rattle.machine.proofs.OpeningRecord.{empty_lanes}
use Rattle.machine.proofs.opening.empty_lanes.Goals as goal

pub returns : goal.returns
returns c = λ n. empty_lanes n 12 _
