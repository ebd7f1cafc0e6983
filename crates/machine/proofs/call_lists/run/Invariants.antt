-- `machine::call_lists::run` meets its contract. What has been answered, and the calls that are left.
-- Assumes nothing.
use Prim.Native.Nat.{◌*◌}
use Rattle.records.specs.View.{view}
use Rattle.machine.proofs.GoingOn.{Going}
use Rattle.machine.proofs.call_lists.run.Given as goal

abbrev pub invariant-loop-i : goal.invariant-loop-i
invariant-loop-i l = Going l.calls l.initial.answers (view l.initial.record) l.answers (view l.record) (l.i * 4) (l.i * 4)
