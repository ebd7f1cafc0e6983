-- `records::bounds::Bounds::grants_in` meets its contract. It holds of each before the one in hand.
-- Assumes nothing.
use mathlib.Core.Bool.{true}
use mathlib.Core.Path.{◌≡◌}
use lib.ListN.{take}
use Rattle.lists.specs.Search.{all}
use Rattle.units.specs.Units.{grant_in}
use Rattle.records.proofs.bounds.Bounds.grants_in.Given as goal

abbrev pub invariant-loop-units : goal.invariant-loop-units
invariant-loop-units l = all (grant_in l.self.stock) (take l.units-index l.granted) ≡ true
