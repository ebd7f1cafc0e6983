-- `calls::asking::ask` meets its contract. 14 where the lane would pass its limit; otherwise lane and station are stored.
-- Assumes nothing.
use mathlib.Core.Path.{sym, ap, ◌∙◌}
use native.Mathlib.Omega.{arith}
use Rattle.plain.specs.Answer.{Returned, refused, done}
use Rattle.records.specs.View.{view}
use Rattle.records.proofs.Storing.{store_phase, store_up}
use Rattle.plain.specs.declared.Phase.TheVariants.{Collecting}
use Rattle.calls.proofs.AskingMember.{asked_full, asked-goes}
use Rattle.calls.proofs.Returning.{above_besides}
use Rattle.calls.proofs.SendingMessage.{had_room, no_room}
use Rattle.calls.proofs.asking.ask.Goals as goal

pub returns-in-Err-clause-answer : goal.returns-in-Err-clause-answer
returns-in-Err-clause-answer c =
    let x = c.in-Err.refusal in
    let w = c.args.wish in
    let (full, number) = no_room _ x (c.in-Err.ensures.refusal c.args.r.now.n c.requires.1 c.requires.2) in
    rw c.in-Err.ensures.refused (ap (refused (view c.args.r.now)) number ∙ sym (asked_full c.args.r.now c.args.s w.quorum w.units w.member w.above full))

pub returns-clause-answer : goal.returns-clause-answer
returns-clause-answer c =
    let r = c.args.r.now in
    let w = c.args.wish in
    let lanes = c.put_between.new.all in
    let room = had_room _ (c.in-Ok.ensures.refusal r.n c.requires.1 c.requires.2) in
    ap (λ (x : Returned). done x (view (store_phase c.args.s (Collecting w.quorum w.units w.member) (store_up lanes r)))) (above_besides c.nothing.result c.nothing.ensures w.above)
    ∙ sym (asked-goes r c.args.s w.quorum w.units w.member w.above lanes room c.requires.1 (omega arith) (c.in-Ok.ensures.lanes r.n c.requires.1 c.requires.2))
