-- `records::bounds::Bounds::arbiters_in` meets its contract. It holds of each before the one in hand.
-- Assumes nothing.
use mathlib.Core.Bool.{true}
use mathlib.Core.Path.{◌≡◌}
use lib.ListN.{take}
use Rattle.lists.specs.Search.{all}
use Rattle.plain.specs.InRange.{arbiter_in}
use Rattle.records.specs.View.{arbiter_of}
use Rattle.records.proofs.bounds.Bounds.arbiters_in.Given as goal

abbrev pub invariant-loop-a : goal.invariant-loop-a
invariant-loop-a l = all (λ a. arbiter_in l.self.stations l.self.stock (arbiter_of l.self.stations a)) (take l.a-index l.arbiters) ≡ true
