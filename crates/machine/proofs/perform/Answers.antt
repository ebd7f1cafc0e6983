-- `machine::perform` meets its contract. Refused as a whole, or performed.
-- Assumes nothing.
use mathlib.Core.Path.{◌≡◌, refl, sym}
use Prim.Native.Nat.{◌<◌}
use native.Mathlib.Omega.{arith}
use lib.ListN.{length}
use Rattle.std.specs.Prelude.{Ok, Err}
use Rattle.refusals.specs.Numbers.{number_of}
use Rattle.refusals.proofs.Outcomes.{some_number}
use Rattle.records.specs.View.{view}
use Rattle.machine.specs.Performing.{performance, performed_of, answers_in}
use Rattle.machine.proofs.PerformingList.{passed_list, refused-list, done-list}
use Rattle.machine.proofs.perform.Goals as goal
use Rattle.machine.proofs.perform.Goals.{In-Err, After-run}

pub run-requires : goal.run-requires
run-requires c = passed_list c.args.calls.now (length c.args.answers.now) (sym c.in-Ok.ensures)

done : (c : After-run) → (performed_of (record { outcome = Ok tt; «record» = c.run.result }) ≡ performance (view c.args.r) c.args.calls.now (length c.args.answers.now))
    × (c.run.new.answers ≡ answers_in (view c.args.r) c.args.calls.now c.args.answers.now)
done c =
    done-list (view c.args.r) c.args.calls.now c.args.answers.now c.run.new.answers (record { outcome = Ok tt; «record» = c.run.result })
    (sym c.in-Ok.ensures) refl c.run.ensures.state c.run.ensures.answers

pub returns-in-Ok-clause-performed : goal.returns-in-Ok-clause-performed
returns-in-Ok-clause-performed c = (done (goal.at.returns-in-Ok-clause-performed c).After-run).0

pub returns-in-Ok-clause-answers : goal.returns-in-Ok-clause-answers
returns-in-Ok-clause-answers c = (done (goal.at.returns-in-Ok-clause-answers c).After-run).1

turned : (c : In-Err) → (performed_of (record { outcome = Err c.in-Err.refusal; «record» = c.args.r }) ≡ performance (view c.args.r) c.args.calls.now (length c.args.answers.now))
    × (c.args.answers.now ≡ answers_in (view c.args.r) c.args.calls.now c.args.answers.now)
turned c =
    let some : 0 < number_of c.in-Err.refusal = omega (arith, some_number c.in-Err.refusal) in
    refused-list (view c.args.r) c.args.calls.now c.args.answers.now (record { outcome = Err c.in-Err.refusal; «record» = c.args.r }) refl
    (number_of c.in-Err.refusal) (sym c.in-Err.ensures) some refl

pub returns-in-Err-clause-performed : goal.returns-in-Err-clause-performed
returns-in-Err-clause-performed c = (turned (goal.at.returns-in-Err-clause-performed c).In-Err).0

pub returns-in-Err-clause-answers : goal.returns-in-Err-clause-answers
returns-in-Err-clause-answers c = (turned (goal.at.returns-in-Err-clause-answers c).In-Err).1
