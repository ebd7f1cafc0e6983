-- `arbiters::lending::granted_set` meets its contract. The stations below the one in hand that are granted.
-- Assumes nothing.
use Rattle.std.proofs.Common.{◌≡◌}
use Rattle.stations.specs.Sets.{set_of}
use Rattle.arbiters.specs.Lent.{is_granted}
use Rattle.arbiters.proofs.lending.granted_set.Given as goal

abbrev pub invariant-loop-t : goal.invariant-loop-t
invariant-loop-t l = l.set ≡ set_of (is_granted l.granted) l.t
