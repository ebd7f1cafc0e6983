-- `calls::lanes::put` meets its contract. The message takes the place after the last.
-- Assumes nothing.
use native.Mathlib.Omega.{arith}
use Rattle.records.proofs.Viewing.{lane_put}
use Rattle.calls.proofs.SendingMessage.{lane_full, lane_room}
use Rattle.calls.proofs.lanes.put.Goals as goal

pub returns-then-places-at-clause-refusal : goal.returns-then-places-at-clause-refusal
returns-then-places-at-clause-refusal c = rw (lane_full c.args.places c.args.l.now c.args.m c.if-places-at.true)

pub returns-clause-refusal : goal.returns-clause-refusal
returns-clause-refusal c = rw (lane_room c.args.places c.args.l.now c.args.m c.if-places-at.false)

pub returns-clause-lane : goal.returns-clause-lane
returns-clause-lane c = lane_put _ _ c.args.m (omega arith) (omega arith)
