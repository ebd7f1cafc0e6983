-- `Table::is_nested` meets its contract. The loop's invariant: the rest is nested exactly when the table is.
-- Assumes nothing.
use mathlib.Core.Path.{◌≡◌}
use lib.ListN.{length}
use Rattle.quorum.specs.Nested.{nested}
use Rattle.quorum.proofs.table.Table.is_nested.Given as goal

abbrev pub invariant-loop-quorum : goal.invariant-loop-quorum
invariant-loop-quorum l = nested l.rest ≡ nested l.self.quorums.now

abbrev pub decreases-loop-quorum : goal.decreases-loop-quorum
decreases-loop-quorum l = length l.rest
