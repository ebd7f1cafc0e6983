-- `calls::downs::told_gone` meets its contract. The station and the lanes down change.
-- Assumes nothing.
use mathlib.Core.Path.{sym, ap, ◌∙◌}
use native.Mathlib.Omega.{arith}
use Rattle.plain.specs.Answer.{Returned, nothing, done}
use Rattle.plain.specs.Down.{left}
use Rattle.plain.specs.declared.Phase.{Phase}
use Rattle.records.specs.View.{view}
use Rattle.records.proofs.Storing.{store_phase, store_down}
use Rattle.calls.proofs.ReceivingDown.{gone_done}
use Rattle.calls.proofs.TakingMessage.{down-takeable, down-without}
use Rattle.calls.proofs.downs.told_gone.Goals as goal

pub take_between-requires : goal.take_between-requires
take_between-requires c = down-takeable c.args.r.now c.args.s c.args.j c.requires

pub returns : goal.returns
returns c =
    let r = c.args.r.now in
    let s = c.args.s in
    let rest = c.take_between.new.all in
    let without = down-without r s c.args.j c.requires rest c.take_between.ensures in
    ap (λ (x : Returned). done x (view (store_phase s c.after_gone.result (store_down rest r)))) c.nothing.ensures
    ∙ ap (λ (p : Phase). done nothing (view (store_phase s p (store_down rest r)))) c.after_gone.ensures
    ∙ sym (gone_done r s c.args.j c.requires rest without (omega (arith, c.requires.took.station, c.requires.few)) (λ p e. ap left e))
