-- `records::bounds::Bounds::line_in` meets its contract. It holds of each before the one in hand.
-- Assumes nothing.
use mathlib.Core.Bool.{true}
use mathlib.Core.Path.{◌≡◌}
use lib.ListN.{take}
use Rattle.lists.specs.Search.{all}
use Rattle.plain.specs.InRange.{entry_in}
use Rattle.records.proofs.bounds.Bounds.line_in.Given as goal

abbrev pub invariant-loop-e : goal.invariant-loop-e
invariant-loop-e l = all (entry_in l.self.stations l.self.stock) (take l.e-index l.line) ≡ true
