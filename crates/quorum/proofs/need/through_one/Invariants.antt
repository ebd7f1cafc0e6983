-- `quorum::need::through_one` meets its contract. The loop's invariant: the least byte of the quorums to come, with what was found before, is the least of all.
-- Assumes nothing.
use mathlib.Core.Path.{◌≡◌}
use Prim.Native.Nat.{◌≤◌}
use lib.ListN.{drop}
use Rattle.quorum.specs.Inner.Need.{no_need, least_byte}
use Rattle.quorum.proofs.need.through_one.Given as goal

abbrev pub invariant-loop-quorum : goal.invariant-loop-quorum
invariant-loop-quorum l =
    (l.least ≤ no_need) × (least_byte l.bytes l.set l.least (drop l.quorum-index l.quorums) ≡ least_byte l.bytes l.set no_need l.quorums)
