-- `calls::taking::tested` meets its contract. 19 and 8 in their order.
-- Assumes nothing.
use mathlib.Core.Bool.{true}
use mathlib.Core.Path.{◌≡◌, sym, ◌∙◌}
use borrow.Author.Tests.{le-leb, lt-leb}
use Rattle.plain.specs.InRange.{in_range}
use Rattle.records.specs.View.{view}
use Rattle.calls.proofs.RecordInRange.{few}
use Rattle.calls.proofs.taking.tested.Goals as goal
use Rattle.calls.proofs.taking.tested.Goals.{Else-not-in_range}

range : (c : Else-not-in_range) → in_range (view c.args.r.now) ≡ true
range c = sym c.in_range.ensures ∙ c.if-not-in_range.false

pub returns-then-r-s-clause-refusal : goal.returns-then-r-s-clause-refusal
unfolding view
returns-then-r-s-clause-refusal c = rw (range (goal.at.returns-then-r-s-clause-refusal c).Else-not-in_range, le-leb _ _ c.if-r-s.true)

pub returns-clause-refusal : goal.returns-clause-refusal
unfolding view
returns-clause-refusal c = rw (range (goal.at.returns-clause-refusal c).Else-not-in_range, lt-leb _ _ c.if-r-s.false)

pub returns-clause-passed : goal.returns-clause-passed
returns-clause-passed c =
    let e = range (goal.at.returns-clause-passed c).Else-not-in_range in
    record { range = e; few = few c.args.r.now e; station = c.if-r-s.false }
