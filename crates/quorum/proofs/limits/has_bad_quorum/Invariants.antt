-- `quorum::limits::has_bad_quorum` meets its contract. None of the quorums before the one in hand is out of place.
-- Assumes nothing.
use mathlib.Core.Bool.{false}
use mathlib.Core.Path.{◌≡◌}
use lib.ListN.{take}
use Rattle.lists.specs.Search.{any}
use Rattle.quorum.specs.Limits.{out_of_place}
use Rattle.quorum.proofs.limits.has_bad_quorum.Given as goal

abbrev pub invariant-loop-quorum : goal.invariant-loop-quorum
invariant-loop-quorum l = any (out_of_place l.n) (take l.quorum-index l.quorums) ≡ false
