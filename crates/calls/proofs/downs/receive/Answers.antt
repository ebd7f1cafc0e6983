-- `calls::downs::receive` meets its contract. A message that is neither GRANT nor GONE is dropped.
-- Assumes nothing.
use mathlib.Core.Path.{sym, ap, ◌∙◌}
use Rattle.plain.specs.Answer.{Returned, done}
use Rattle.records.specs.View.{view}
use Rattle.records.proofs.Storing.{store_down}
use Rattle.calls.proofs.LastArms.{dropped}
use Rattle.calls.proofs.ReceivingDown.{drops-done}
use Rattle.calls.proofs.TakingMessage.{down-takeable, down-without}
use Rattle.calls.proofs.downs.receive.Goals as goal

pub take_between-requires : goal.take_between-requires
take_between-requires c = down-takeable c.args.r.now c.args.s c.args.j c.requires

pub returns-in_default : goal.returns-in_default
returns-in_default c =
    let r = c.args.r.now in
    let rest = c.take_between.new.all in
    let without = down-without r c.args.s c.args.j c.requires rest c.take_between.ensures in
    let made = dropped (view r).table c.args.j ((view r).phase c.args.s) c.args.m c.in_default.not-Grant c.in_default.not-Gone in
    record { answer = ap (λ (x : Returned). done x (view (store_down rest r))) c.nothing.ensures ∙ sym (drops-done r c.args.s c.args.j c.requires rest without made); refused = tt }
