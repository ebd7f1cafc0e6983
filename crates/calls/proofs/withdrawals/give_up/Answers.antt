-- `calls::withdrawals::give_up` meets its contract. 19, 8 and 20 in their order; then RELEASE and WITHDRAW go up, and the lanes are stored.
-- Assumes nothing.
use mathlib.Core.Path.{refl, sym, ap, ◌∙◌}
use Rattle.refusals.proofs.Outcomes.{some_number}
use Rattle.plain.specs.Answer.{Returned, nothing, refused, done}
use Rattle.records.specs.View.{view}
use Rattle.calls.proofs.GivingUp.{collects-nothing, wished-number, wished-set, approached, full_up, goes_up}
use Rattle.calls.proofs.SendingMessage.{had_room, no_room}
use Rattle.calls.proofs.StationTests.{withdraw_turned}
use Rattle.calls.proofs.withdrawals.give_up.Goals as goal

pub returns-in-Err-clause-answer : goal.returns-in-Err-clause-answer
returns-in-Err-clause-answer c =
    (sym (withdraw_turned (view c.args.r.now) c.args.s c.in-Err.ensures.refusal (some_number c.in-Err.refusal)))

pub returns-in_default : goal.returns-in_default
returns-in_default c = record { answer = sym (collects-nothing c.args.r.now c.args.s c.in-Ok.ensures.passed c.in_default.not-Collecting); refused = refl }

pub bounds-r-quorum : goal.bounds-r-quorum
bounds-r-quorum c = wished-number c.args.r.now c.args.s c.in-Ok.ensures.passed _ _ _ c.in-Collecting.is

pub withdraw_row-requires : goal.withdraw_row-requires
withdraw_row-requires c =
    let stands = c.in-Ok.ensures.passed in
    (stands.few, wished-set c.args.r.now c.args.s stands _ _ _ c.in-Collecting.is, approached c.args.r.now c.args.s stands _ _ _ c.in-Collecting.is)

pub returns-in-Err-withdraw_row-clause-answer : goal.returns-in-Err-withdraw_row-clause-answer
returns-in-Err-withdraw_row-clause-answer c =
    let x = c.in-Err-withdraw_row.refusal in
    let (full, number) = no_room _ x c.in-Err-withdraw_row.ensures.refusal in
    (ap (refused (view c.args.r.now)) number ∙ sym (full_up c.args.r.now c.args.s c.in-Ok.ensures.passed _ _ _ c.in-Collecting.is full))

pub returns-clause-answer : goal.returns-clause-answer
returns-clause-answer c =
    ap (λ (x : Returned). done x (view c.send_row.new.r)) c.nothing.ensures
    ∙ ap (done nothing) c.send_row.ensures
    ∙ sym (goes_up c.args.r.now c.args.s c.in-Ok.ensures.passed _ _ _ c.in-Collecting.is c.withdraw_row.new.w (had_room _ c.in-Ok-withdraw_row.ensures.refusal) c.in-Ok-withdraw_row.ensures.row)
