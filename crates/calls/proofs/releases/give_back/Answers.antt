-- `calls::releases::give_back` meets its contract. 19, 8 and 12 in their order; then RELEASE goes up to all members, and the lanes are stored.
-- Assumes nothing.
use mathlib.Core.Path.{refl, sym, ap, ◌∙◌}
use Rattle.refusals.proofs.Outcomes.{some_number}
use Rattle.plain.specs.Answer.{Returned, left_only, refused, done}
use Rattle.records.specs.View.{view}
use Rattle.calls.proofs.GivingBack.{holds-nothing, held-number, held-set, full_back, goes_back}
use Rattle.calls.proofs.Returning.{left_besides}
use Rattle.calls.proofs.SendingMessage.{had_room, no_room}
use Rattle.calls.proofs.StationTests.{release_turned}
use Rattle.calls.proofs.releases.give_back.Goals as goal

pub returns-in-Err-clause-answer : goal.returns-in-Err-clause-answer
returns-in-Err-clause-answer c =
    (sym (release_turned (view c.args.r.now) c.args.s c.in-Err.ensures.refusal (some_number c.in-Err.refusal)))

pub returns-in_default : goal.returns-in_default
returns-in_default c = record { answer = sym (holds-nothing c.args.r.now c.args.s c.in-Ok.ensures.passed c.in_default.not-Holding); refused = refl }

pub bounds-r-quorum : goal.bounds-r-quorum
bounds-r-quorum c = held-number c.args.r.now c.args.s c.in-Ok.ensures.passed _ _ c.in-Holding.is

pub release_row-requires : goal.release_row-requires
release_row-requires c =
    let stands = c.in-Ok.ensures.passed in
    (stands.few, held-set c.args.r.now c.args.s stands _ _ c.in-Holding.is)

pub returns-in-Err-release_row-clause-answer : goal.returns-in-Err-release_row-clause-answer
returns-in-Err-release_row-clause-answer c =
    let x = c.in-Err-release_row.refusal in
    let (full, number) = no_room _ x c.in-Err-release_row.ensures.refusal in
    (ap (refused (view c.args.r.now)) number ∙ sym (full_back c.args.r.now c.args.s c.in-Ok.ensures.passed _ _ c.in-Holding.is full))

pub returns-clause-answer : goal.returns-clause-answer
returns-clause-answer c =
    let units = c.in-Holding.units in
    ap (λ (x : Returned). done x (view c.send_row.new.r)) (left_besides c.nothing.result c.nothing.ensures units)
    ∙ ap (done (left_only units)) c.send_row.ensures
    ∙ sym (goes_back c.args.r.now c.args.s c.in-Ok.ensures.passed _ _ c.in-Holding.is c.release_row.new.w (had_room _ c.in-Ok-release_row.ensures.refusal) c.in-Ok-release_row.ensures.row)
