-- `machine::call_lists::tested` meets its contract. 15 and 16 in their order.
-- Assumes nothing.
use mathlib.Core.Path.{sym, ◌∙◌}
use Rattle.machine.proofs.PerformingList.{refusal_15, refusal_16, refusal-none}
use Rattle.machine.proofs.call_lists.tested.Goals as goal

pub returns-then-not-all_formed : goal.returns-then-not-all_formed
returns-then-not-all_formed c = sym (refusal_15 c.args.calls.now c.args.room (sym c.all_formed.ensures ∙ c.if-not-all_formed.true))

pub returns-then-room-calls : goal.returns-then-room-calls
returns-then-room-calls c = sym (refusal_16 c.args.calls.now c.args.room (sym c.all_formed.ensures ∙ c.if-not-all_formed.false) c.if-room-calls.true)

pub returns : goal.returns
returns c = sym (refusal-none c.args.calls.now c.args.room (sym c.all_formed.ensures ∙ c.if-not-all_formed.false) c.if-room-calls.false)
