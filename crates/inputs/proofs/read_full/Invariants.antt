-- `inputs::read_full` meets its contract. Each turn leaves less to fill.
-- Assumes nothing.
use Rattle.std.proofs.Common.{length, ◌≡◌, ◌-◌, ◌≤◌}
use Rattle.inputs.proofs.read_full.Given as goal

abbrev pub invariant-loop-taken : goal.invariant-loop-taken
invariant-loop-taken g l = (length l.text ≡ length l.initial.text) × (l.taken ≤ length l.text)

abbrev pub decreases-loop-taken : goal.decreases-loop-taken
decreases-loop-taken g l = length l.initial.text - l.taken
