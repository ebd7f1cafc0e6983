-- `calls::ups::arrive` meets its contract. 14 where the line or a lane down would pass its limit; otherwise all of it is stored.
-- Assumes nothing.
use mathlib.Core.Path.{sym, ap, ◌∙◌}
use native.Mathlib.Omega.{arith}
use lib.ListN.{get_or}
use Rattle.std.proofs.lemmas.List.{set-get_or}
use Rattle.plain.specs.Answer.{Returned, refused, done}
use Rattle.arbiters.proofs.TellingArbiter.{told_full, told_14}
use Rattle.records.specs.View.{view, no_arbiter, arbiter_of}
use Rattle.records.proofs.Storing.{store_up, store_arbiter, store_down}
use Rattle.calls.proofs.DeliveringUp.{fit, line_full_lem, lane-down_full, all-stored, facts, grants-are, sends}
use Rattle.calls.proofs.SendingMessage.{had_room, no_room}
use Rattle.calls.proofs.TakingMessage.{up-takeable, up-without}
use Rattle.calls.proofs.ups.arrive.Goals as goal

pub returns-in-Err-clause-answer : goal.returns-in-Err-clause-answer
returns-in-Err-clause-answer c =
    let r = c.args.r.now in
    let x = c.in-Err.refusal in
    let t = c.requires in
    let a = get_or r.arbiters c.args.j no_arbiter in
    let f = fit r c.args.s c.args.j c.args.m t in
    let full = told_full r.n r.stock c.args.s c.args.m (arbiter_of r.n a) f t.took.station a x c.in-Err.ensures in
    let number = told_14 r.n r.stock c.args.s c.args.m (arbiter_of r.n a) f t.took.station a x c.in-Err.ensures in
    rw (set-get_or r.arbiters c.args.j no_arbiter) (ap (refused (view r)) number ∙ sym (line_full_lem r c.args.s c.args.j c.args.m t full))

pub send-requires : goal.send-requires
send-requires c = sends c.args.r.now c.args.s c.args.j c.args.m c.requires c.in-Ok.delivery c.in-Ok.ensures c.granted.result.now c.granted.ensures

pub returns-in-Err-send-clause-answer : goal.returns-in-Err-send-clause-answer
returns-in-Err-send-clause-answer c =
    let r = c.args.r.now in
    let x = c.in-Err-send.refusal in
    let are = grants-are r c.args.s c.args.j c.args.m c.requires c.in-Ok.delivery c.in-Ok.ensures c.granted.result.now c.granted.ensures in
    let (full, number) = no_room _ x c.in-Err-send.ensures.refusal in
    rw (set-get_or r.arbiters c.args.j no_arbiter) (ap (refused (view r)) number ∙ sym (lane-down_full r c.args.s c.args.j c.args.m c.requires c.granted.result.now are full))

pub take_between-requires : goal.take_between-requires
take_between-requires c = up-takeable c.args.r.now c.args.s c.args.j c.requires

pub returns-clause-answer : goal.returns-clause-answer
returns-clause-answer c =
    let r = c.args.r.now in
    let s = c.args.s in
    let j = c.args.j in
    let t = c.requires in
    let d = c.in-Ok.delivery in
    let g = c.granted.result.now in
    let f = facts r s j c.args.m t d c.in-Ok.ensures g c.granted.ensures in
    let are = grants-are r s j c.args.m t d c.in-Ok.ensures g c.granted.ensures in
    rw (set-get_or r.arbiters j no_arbiter)
    (ap (λ (x : Returned). done x (view (store_down c.send.new.down (store_arbiter j d.arbiter (store_up c.take_between.new.all r))))) c.nothing.ensures
    ∙ sym (all-stored r s j c.args.m t g are d.arbiter c.take_between.new.all c.send.new.down (omega (arith, t.few, t.took.arbiter)) f.arbiter c.in-Ok-send.ensures.lanes (up-without r s j t c.take_between.new.all c.take_between.ensures) f.room (had_room _ c.in-Ok-send.ensures.refusal)))
