-- `Table::fill` meets its contract. The loop's invariant: the byte of every set of stations below i says what that set needs.
-- Assumes nothing.
use Rattle.quorum.specs.Inner.Need.{Needs}
use Rattle.quorum.proofs.table.Table.fill.Given as goal

abbrev pub invariant-loop-i : goal.invariant-loop-i
invariant-loop-i l = Needs l.i l.self.quorums.now l.bytes
