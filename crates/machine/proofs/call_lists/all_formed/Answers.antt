-- `machine::call_lists::all_formed` meets its contract: a call of the form leaves the rest as it is, and no whole call is left at the end.
-- Assumes nothing.
use mathlib.Core.Bool.{Bool, ◌&&◌}
use mathlib.Core.Path.{sym, ap, ◌∙◌}
use Prim.Native.Nat.{◌-◌}
use native.Mathlib.Omega.{arith}
use lib.ListN.{length, drop, length-drop}
use Rattle.std.proofs.lemmas.List.{take_all}
use Rattle.lists.proofs.Tests.{eqb_sym}
use Rattle.machine.specs.Performing.{well_formed}
use Rattle.machine.proofs.PerformingCalls.{well_formed-next, well_formed_end}
use Rattle.machine.proofs.call_lists.all_formed.Goals as goal

pub returns-then-not-is_formed : goal.returns-then-not-is_formed
returns-then-not-is_formed c =
    let rest = c.loop-rest.rest.now in
    sym (c.loop-rest.invariant ∙ well_formed-next rest 0 c.in-len4-up.len_at_least
    ∙ ap (λ (b : Bool). b && well_formed (drop 4 rest)) (sym c.is_formed.ensures ∙ c.if-not-is_formed.true))

pub loop-rest-preserved : goal.loop-rest-preserved
loop-rest-preserved c =
    let rest = c.loop-rest.rest.now in
    let l = length-drop 4 rest in
    c.loop-rest.invariant ∙ well_formed-next rest 0 c.in-len4-up.len_at_least
    ∙ ap (λ (b : Bool). b && well_formed (drop 4 rest)) (sym c.is_formed.ensures ∙ c.if-not-is_formed.false)
    ∙ sym (ap well_formed (take_all (length rest - 4) (drop 4 rest) (omega arith)))

pub returns : goal.returns
returns c =
    let rest = c.loop-rest.rest.now in
    c.is_empty.ensures
    ∙ eqb_sym (length rest) 0
    ∙ sym (well_formed_end rest 0 (omega arith) (omega (arith, c.in_default.len_below)))
    ∙ sym c.loop-rest.invariant
