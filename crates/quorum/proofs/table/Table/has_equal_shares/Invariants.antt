-- `Table::has_equal_shares` meets its contract. The loop's invariant: every station below i belongs to as many quorums as station 0.
-- Assumes nothing.
use mathlib.Core.Path.{◌≡◌}
use Prim.Native.Nat.{ℕ, ◌<◌}
use Rattle.quorum.specs.Even.{belongs}
use Rattle.quorum.proofs.table.Table.has_equal_shares.Given as goal

abbrev pub invariant-loop-i : goal.invariant-loop-i
invariant-loop-i l = (l.first ≡ belongs l.self.quorums.now 0) × ((j : ℕ) → j < l.i → belongs l.self.quorums.now j ≡ belongs l.self.quorums.now 0)
