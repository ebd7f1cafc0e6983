-- `Table::without` meets its contract. The loop's invariant: what is found so far are the quorums so far without the station.
-- Assumes nothing.
use mathlib.Core.Path.{◌≡◌}
use Prim.Native.Nat.{◌≤◌}
use lib.ListN.{take}
use Rattle.quorum.specs.Inner.Need.{without}
use Rattle.quorum.proofs.table.Table.without.Given as goal

abbrev pub invariant-loop-quorum : goal.invariant-loop-quorum
invariant-loop-quorum l = (l.len ≤ l.quorum-index) × (take l.len l.found ≡ without l.i (take l.quorum-index l.self.quorums.now))
