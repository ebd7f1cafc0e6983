-- `Table::fill_highest` meets its contract. The loop's invariant: the byte of every smaller set says what that set needs.
-- Assumes nothing.
use mathlib.Core.Path.{◌≡◌}
use Prim.Native.Nat.{ℕ, ◌<◌, ◌^◌}
use lib.ListN.{get_or}
use Rattle.quorum.specs.Inner.Need.{Need}
use Rattle.quorum.proofs.table.Table.fill_highest.Given as goal

abbrev pub invariant-loop-set : goal.invariant-loop-set
invariant-loop-set l = (l.first ≡ 2 ^ l.i) × ((s : ℕ) → s < l.set → Need l.self.quorums.now s (get_or l.bytes s 0))
