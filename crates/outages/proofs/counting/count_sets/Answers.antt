-- `outages::counting::count_sets` meets its contract. The loop's invariant: the sets below `set` that contain a quorum are counted by their size.
-- Assumes nothing.
use Rattle.std.proofs.Common.{◌≡◌, ◌+◌, ◌^◌, ◌≤◌, ◌<◌, sym, ap, ◌∙◌, arith}
use lib.ListN.{get_or}
use lib.Pow.{pow_pos, pow_mono}
use Rattle.stations.proofs.Members.{everyone-min}
use Rattle.quorum.specs.Limits.{most_stations}
use Rattle.outages.specs.Answer.{sizes}
use Rattle.outages.proofs.SetsSeen.{counts_below, none_seen, all_seen, seen_fail, seen_pass, size_few, count_few}
use Rattle.outages.proofs.counting.count_sets.Goals as goal
use Rattle.outages.proofs.counting.count_sets.Goals.{After-count, After-works, Joined-works, then-works, else-works}

pub loop-set-init : goal.loop-set-init
loop-set-init c = none_seen c.args.n c.args.quorums.now

-- one set of the n stations
module _ (c : After-works) where
  below : c.loop-set.set < 2 ^ c.args.n
  below = omega (arith, pow_pos c.args.n, everyone-min c.args.n (omega arith), c.everyone-last.ensures)

  small : 2 ^ c.args.n ≤ 2 ^ most_stations
  small = pow_mono c.requires

-- which contains a quorum, and has so many members
module _ (c : After-count) (below : c.loop-set.set < 2 ^ c.args.n) where
  in_array : c.count.result < sizes
  in_array =
      size_few c.args.n c.args.quorums.now c.loop-set.counts c.loop-set.set c.loop-set.invariant c.requires below c.count.result c.count.ensures

  so_far : get_or c.loop-set.counts c.count.result 0 ≤ c.loop-set.set
  so_far =
      count_few c.args.n c.args.quorums.now c.loop-set.counts c.loop-set.set c.loop-set.invariant c.requires below c.count.result c.count.ensures

-- one set more is counted, or passed over
next : (c : Joined-works) (below : c.loop-set.set < 2 ^ c.args.n) → c.if-works.counts ≡ counts_below c.args.n c.args.quorums.now (c.loop-set.set + 1)
next c below =
    let n = c.args.n in
    let table = c.args.quorums.now in
    let at = c.loop-set in
    elim c.if-works.branch [
      | then-works w ↦ w.counts-is ∙ seen_pass n table at.counts at.set at.invariant c.requires below w.count.result w.count.ensures (sym c.works.ensures ∙ w.if-works.true)
      | else-works w ↦ w.counts-is ∙ seen_fail n table at.counts at.set at.invariant (sym c.works.ensures ∙ w.if-works.false)
    ]

pub loop-set-preserved : goal.loop-set-preserved
loop-set-preserved c = let at = goal.at.loop-set-preserved c in next at.Joined-works (below at.After-works)

pub returns-after-works : goal.returns-after-works
returns-after-works c =
    let at = goal.at.returns-after-works c in
    let n = c.args.n in
    let end : c.loop-set.set + 1 ≡ 2 ^ n = omega (arith, pow_pos n, everyone-min n (omega arith), c.everyone-last.ensures) in
    next at.Joined-works (below at.After-works) ∙ ap (counts_below n c.args.quorums.now) end ∙ all_seen n c.args.quorums.now

pub offset_bounds-counts-count : goal.offset_bounds-counts-count
offset_bounds-counts-count c = let at = goal.at.offset_bounds-counts-count c in record { fits = omega (arith, in_array at.After-count (below at.After-works)) }

pub bounds-counts-count : goal.bounds-counts-count
bounds-counts-count c = let at = goal.at.bounds-counts-count c in in_array at.After-count (below at.After-works)

pub bounds-counts-count-then-works : goal.bounds-counts-count-then-works
bounds-counts-count-then-works c = let at = goal.at.bounds-counts-count-then-works c in in_array at.After-count (below at.After-works)

pub overflow_add-counts : goal.overflow_add-counts
overflow_add-counts c =
    let at = goal.at.overflow_add-counts c in
    record { fits = omega (arith, small at.After-works, below at.After-works, so_far at.After-count (below at.After-works)) }
