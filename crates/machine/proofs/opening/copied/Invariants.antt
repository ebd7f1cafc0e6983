-- `machine::opening::copied` meets its contract. The places before the one in hand have the quorums of their numbers.
-- Assumes nothing.
use mathlib.Core.Path.{◌≡◌}
use Prim.Native.Nat.{◌≤◌}
use lib.ListN.{length}
use Rattle.lists.specs.Cut.{cut}
use Rattle.machine.proofs.opening.copied.Given as goal

abbrev pub invariant-loop-p : goal.invariant-loop-p
invariant-loop-p l = (l.p ≤ length l.quorums) × (length l.table ≡ 64) × (cut 0 l.p l.table ≡ cut 0 l.p l.quorums)
