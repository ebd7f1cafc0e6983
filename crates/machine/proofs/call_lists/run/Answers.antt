-- `machine::call_lists::run` meets its contract. What has been answered, and the calls that are left.
-- Assumes nothing.
use mathlib.Core.Path.{◌≡◌, ap, ◌∙◌}
use Prim.Native.Nat.{◌+◌, ◌*◌}
use native.Mathlib.Omega.{arith}
use lib.Seq.{sets}
use Rattle.records.specs.View.{view}
use Rattle.calls.specs.Answers.{answer_of}
use Rattle.machine.specs.Performing.{words_of}
use Rattle.machine.proofs.GoingOn.{same_length as same-room, going_none, word, room, going_more, all_after, all-stored}
use Rattle.machine.proofs.PerformingCalls.{calls_length}
use Rattle.machine.proofs.call_lists.run.Goals as goal

pub loop-i-init : goal.loop-i-init
loop-i-init c = going_none _ _ _ c.requires.0

pub answer_at-answer-requires-clause-word : goal.answer_at-answer-requires-clause-word
answer_at-answer-requires-clause-word c =
    word c.args.calls.now c.args.answers.now (view c.args.r) _ _ _ _ c.loop-i.invariant (omega arith)

pub write_answer-requires : goal.write_answer-requires
write_answer-requires c =
    room c.args.calls.now c.args.answers.now (view c.args.r) _ _ _ _ c.loop-i.invariant c.requires.0 c.requires.1 (omega arith)

pub loop-i-preserved : goal.loop-i-preserved
unfolding answer_of words_of
loop-i-preserved c =
    let a = c.answer_at-answer.result in
    let e : (c.loop-i.i + 1) * 4 ≡ c.loop-i.i * 4 + 4 = omega arith in
    rw e
    (going_more c.args.calls.now c.args.answers.now (view c.args.r) _ _ _ _ c.loop-i.invariant (omega arith) (answer_of a) c.answer_at-answer.ensures c.write_answer.new.answers
    (c.write_answer.ensures ∙ ap (sets c.loop-i.answers (c.loop-i.i * 4)) (c.numbers_of.ensures (view a.«record»))))

pub shape_of-answers : goal.shape_of-answers
shape_of-answers c =
    same-room c.args.calls.now c.args.answers.now (view c.args.r) _ _ _ _ c.loop-i.invariant

pub returns-clause-state : goal.returns-clause-state
returns-clause-state c =
    let l = calls_length c.args.calls.now c.requires.0 in
    all_after c.args.calls.now c.args.answers.now (view c.args.r) _ _ _ _ c.loop-i.invariant c.requires.0 c.requires.1 (omega arith)

pub returns-clause-answers : goal.returns-clause-answers
returns-clause-answers c =
    let l = calls_length c.args.calls.now c.requires.0 in
    all-stored c.args.calls.now c.args.answers.now (view c.args.r) _ _ _ _ c.loop-i.invariant c.requires.0 c.requires.1 (omega arith)
