-- `outages::counting::count_sets` meets its contract. The loop's invariant: the sets below `set` that contain a quorum are counted by their size.
-- Assumes nothing.
use Rattle.std.proofs.Common.{◌≡◌}
use Rattle.outages.proofs.SetsSeen.{counts_below}
use Rattle.outages.proofs.counting.count_sets.Given as goal

abbrev pub invariant-loop-set : goal.invariant-loop-set
invariant-loop-set l = l.counts ≡ counts_below l.n l.quorums l.set
