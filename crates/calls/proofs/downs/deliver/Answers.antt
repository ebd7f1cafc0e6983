-- `calls::downs::deliver` meets its contract. 19 first, then the lane's refusals, then what the message makes of the record.
-- Assumes nothing.
use mathlib.Core.Bool.{true, not}
use mathlib.Core.Path.{◌≡◌, refl, sym, ap, ◌∙◌}
use Rattle.refusals.proofs.Outcomes.{some_number}
use Rattle.plain.specs.InRange.{in_range}
use Rattle.plain.proofs.Passed.{down-refused}
use Rattle.records.specs.View.{view}
use Rattle.calls.proofs.RecordInRange.{few}
use Rattle.calls.proofs.TakingMessage.{down_turned}
use Rattle.calls.proofs.downs.deliver.Goals as goal
use Rattle.calls.proofs.downs.deliver.Goals.{Else-not-in_range}

pub returns-then-not-in_range-clause-answer : goal.returns-then-not-in_range-clause-answer
returns-then-not-in_range-clause-answer c = sym (down-refused _ _ _ 0 (tt, ap not (sym c.in_range.ensures ∙ c.if-not-in_range.true)) refl)

range : (c : Else-not-in_range) → in_range (view c.args.r.now) ≡ true
range c = sym c.in_range.ensures ∙ c.if-not-in_range.false

pub oldest-requires : goal.oldest-requires
oldest-requires c = few c.args.r.now (range (goal.at.oldest-requires c).Else-not-in_range)

pub returns-in-Err-clause-answer : goal.returns-in-Err-clause-answer
unfolding view
returns-in-Err-clause-answer c =
    let x = c.in-Err.refusal in
    (sym (down_turned (view c.args.r.now) c.args.s c.args.j _ (range (goal.at.returns-in-Err-clause-answer c).Else-not-in_range) (some_number x) c.in-Err.ensures.refusal))

pub receive-requires : goal.receive-requires
unfolding view
receive-requires c =
    let here = range (goal.at.receive-requires c).Else-not-in_range in
    record { range = here; few = few c.args.r.now here; took = c.in-Ok.ensures.took }
