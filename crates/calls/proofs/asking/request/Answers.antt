-- `calls::asking::request` meets its contract. 19 and 8 to 11 in their order, then the lowest member is asked.
-- Assumes nothing.
use mathlib.Core.Bool.{true}
use mathlib.Core.Path.{◌≡◌, sym, ap, ◌∙◌}
use native.Mathlib.Omega.{arith}
use lib.ListN.{get_or}
use Rattle.refusals.proofs.Outcomes.{some_number}
use Rattle.stations.proofs.Above.{next-member, next-few}
use Rattle.units.specs.Units.{units_of}
use Rattle.units.specs.declared.Units.{Units}
use Rattle.plain.specs.Inner.Passed.{Requests}
use Rattle.records.specs.View.{view}
use Rattle.calls.specs.Inner.Parts.{ask_answer}
use Rattle.calls.proofs.AskingMember.{lowest-station, request-asks, some-next}
use Rattle.calls.proofs.Requesting.{no-quorum, quorum-few, bad-units, not-idle, asked-units, passed}
use Rattle.calls.proofs.StationTests.{request_turned}
use Rattle.calls.proofs.asking.request.Goals as goal
use Rattle.calls.proofs.asking.request.Goals.{After-is_idle}

pub returns-in-Err-clause-answer : goal.returns-in-Err-clause-answer
returns-in-Err-clause-answer c =
    (sym (request_turned (view c.args.r.now) c.args.s c.in-Err.ensures.refusal (some_number c.in-Err.refusal) c.args.q (units_of c.args.h)))

pub returns-then-r-q-clause-answer : goal.returns-then-r-q-clause-answer
returns-then-r-q-clause-answer c = sym (no-quorum c.args.r.now c.args.s c.args.q c.args.h c.in-Ok.ensures.passed c.if-r-q.true)

pub returns-then-not-request_in-clause-answer : goal.returns-then-not-request_in-clause-answer
returns-then-not-request_in-clause-answer c =
    sym (bad-units c.args.r.now c.args.s c.args.q c.args.h c.in-Ok.ensures.passed c.if-r-q.false c.units_of-units.result c.units_of-units.ensures (sym c.request_in.ensures ∙ c.if-not-request_in.true))

pub returns-then-not-is_idle-clause-answer : goal.returns-then-not-is_idle-clause-answer
returns-then-not-is_idle-clause-answer c =
    sym (not-idle c.args.r.now c.args.s c.args.q c.args.h c.in-Ok.ensures.passed c.if-r-q.false c.units_of-units.result c.units_of-units.ensures (sym c.request_in.ensures ∙ c.if-not-request_in.false) (sym c.is_idle.ensures ∙ c.if-not-is_idle.true))

pub bounds-r-q : goal.bounds-r-q
bounds-r-q c = quorum-few c.args.r.now c.args.s c.args.q c.args.h c.in-Ok.ensures.passed c.if-r-q.false

passes : (c : After-is_idle) → c.is_idle.result ≡ true → Requests (view c.args.r.now) c.args.s c.args.q (units_of c.args.h)
passes c idle =
    passed c.args.r.now c.args.s c.args.q c.args.h c.in-Ok.ensures.passed c.if-r-q.false c.units_of-units.result c.units_of-units.ensures (sym c.request_in.ensures ∙ c.if-not-request_in.false) (sym c.is_idle.ensures ∙ idle)

-- no quorum is empty
pub returns-in_default : goal.returns-in_default
returns-in_default c =
    absurd (some-next c.args.r.now c.args.s c.args.q (units_of c.args.h) (passes (goal.at.returns-in_default c).After-is_idle c.if-not-is_idle.false) c.in_default.ensures.next)

pub overflow_cast-wish-3 : goal.overflow_cast-wish-3
overflow_cast-wish-3 c = let h = next-few (get_or c.args.r.now.table c.args.q 0) 0 c.in-Some.next c.in-Some.ensures.next in omega arith

pub ask-requires : goal.ask-requires
ask-requires c =
    let stands = c.in-Ok.ensures.passed in
    let set = get_or c.args.r.now.table c.args.q 0 in
    let member = next-member set 0 c.in-Some.next c.in-Some.ensures.next in
    (stands.few, stands.station, omega (arith, member, lowest-station c.args.r.now c.args.s c.args.q (units_of c.args.h) (passes (goal.at.ask-requires c).After-is_idle c.if-not-is_idle.false)))

pub returns-clause-answer : goal.returns-clause-answer
returns-clause-answer c =
    let r = c.args.r.now in
    let next = c.in-Some.next in
    let p = passes (goal.at.returns-clause-answer c).After-is_idle c.if-not-is_idle.false in
    c.ask.ensures.answer
    ∙ ap (λ (u : Units). ask_answer (view r) c.args.s c.args.q u next.member next.above) (asked-units r c.args.s c.args.q c.args.h c.in-Ok.ensures.passed c.if-r-q.false c.units_of-units.result c.units_of-units.ensures (sym c.request_in.ensures ∙ c.if-not-request_in.false))
    ∙ sym (request-asks r c.args.s c.args.q (units_of c.args.h) p next c.in-Some.ensures.next)
