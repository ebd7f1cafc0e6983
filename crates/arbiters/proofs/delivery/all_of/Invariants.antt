-- `arbiters::delivery::all_of` meets its contract. It holds of each before the one in hand.
-- Assumes nothing.
use mathlib.Core.Bool.{true}
use mathlib.Core.Path.{◌≡◌}
use lib.ListN.{take}
use Rattle.lists.specs.Search.{all}
use Rattle.arbiters.specs.Telling.{is_of}
use Rattle.arbiters.proofs.delivery.all_of.Given as goal

abbrev pub invariant-loop-e : goal.invariant-loop-e
invariant-loop-e l = all (is_of l.n) (take l.e-index l.line) ≡ true
