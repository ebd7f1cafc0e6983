-- `calls::taking::oldest` meets its contract. 8 and 13 in their order; then the oldest message stands first.
-- Assumes nothing.
use mathlib.Core.Path.{◌≡◌, ◌∙◌}
use native.Mathlib.Omega.{arith}
use borrow.Author.Tests.{lt-leb}
use Rattle.records.specs.View.{lane_of, lanes_of}
use Rattle.records.proofs.Viewing.{lane_empty, lanes_at}
use Rattle.calls.specs.Inner.Parts.{lane_in}
use Rattle.calls.proofs.TakingMessage.{first-in}
use Rattle.calls.proofs.taking.oldest.Goals as goal
use Rattle.calls.proofs.taking.oldest.Goals.{Else-n-j}

-- station and arbiter exist, and the lane is read
lane : (c : Else-n-j) → lanes_of c.args.n c.args.all.now c.args.s c.args.j ≡ lane_of (lane_in c.args.all.now c.args.s c.args.j)
lane c = lanes_at c.args.n c.args.all.now c.args.s c.args.j c.if-n-s.false c.if-n-j.false

pub returns-then-lane-eq0-clause-refusal : goal.returns-then-lane-eq0-clause-refusal
returns-then-lane-eq0-clause-refusal c =
    rw (lt-leb _ _ c.if-n-s.false, lt-leb _ _ c.if-n-j.false, lane (goal.at.returns-then-lane-eq0-clause-refusal c).Else-n-j, lane_empty (lane_in c.args.all.now c.args.s c.args.j) c.if-lane-eq0.true)

pub returns-clause-refusal : goal.returns-clause-refusal
returns-clause-refusal c =
    rw (lt-leb _ _ c.if-n-s.false, lt-leb _ _ c.if-n-j.false, lane (goal.at.returns-clause-refusal c).Else-n-j, (first-in (lane_in c.args.all.now c.args.s c.args.j) (omega arith)).1)

pub returns-clause-took : goal.returns-clause-took
returns-clause-took c =
    let first = first-in (lane_in c.args.all.now c.args.s c.args.j) (omega arith) in
    record { station = c.if-n-s.false; arbiter = c.if-n-j.false; rest = first.0; oldest = lane (goal.at.returns-clause-took c).Else-n-j ∙ first.1 }
