-- `machine::opening::blank` meets its contract. Every place stands for idle or empty.
-- Assumes nothing.
use Rattle.machine.proofs.OpeningRecord.{blank_fresh}
use Rattle.machine.proofs.opening.blank.Goals as goal

pub returns : goal.returns
returns c =
    let none = c.no_units-none.ensures in
    rw none (blank_fresh c.args.n c.args.stock c.args.quorums c.args.table 12 _ c.empty_lanes-lanes.result (c.empty_lanes-lanes.ensures c.args.n))
