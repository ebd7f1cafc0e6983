-- `machine::call_lists::all_formed` meets its contract: the rest is of the form exactly where the list is.
-- Assumes nothing.
use mathlib.Core.Path.{◌≡◌}
use lib.ListN.{length}
use Rattle.machine.specs.Performing.{well_formed}
use Rattle.machine.proofs.call_lists.all_formed.Given as goal

abbrev pub invariant-loop-rest : goal.invariant-loop-rest
invariant-loop-rest l = well_formed l.calls ≡ well_formed l.rest

abbrev pub decreases-loop-rest : goal.decreases-loop-rest
decreases-loop-rest l = length l.rest
