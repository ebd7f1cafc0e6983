-- `outages::working::works` meets its contract. The set contains none of the quorums before the one in hand.
-- Assumes nothing.
use mathlib.Core.Bool.{false}
use mathlib.Core.Path.{◌≡◌}
use lib.ListN.{take}
use Rattle.lists.specs.Search.{any}
use Rattle.stations.specs.Sets.{contains}
use Rattle.outages.proofs.working.works.Given as goal

abbrev pub invariant-loop-quorum : goal.invariant-loop-quorum
invariant-loop-quorum l = any (contains l.set) (take l.quorum-index l.quorums) ≡ false
