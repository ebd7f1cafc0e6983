-- `Table::first_family` meets its contract. The loop's invariant is `Taking`: what is taken, and what will be, are the lowering quorums.
-- Assumes nothing.
use Rattle.quorum.proofs.Taking.{Taking}
use Rattle.quorum.proofs.table.Table.first_family.Given as goal

abbrev pub invariant-loop-p : goal.invariant-loop-p
invariant-loop-p l = Taking l.self.stations l.self.quorums.now l.bytes l.family l.size l.rest l.p
