-- `records::bounds::Bounds::stations_in` meets its contract. It holds of each before the one in hand.
-- Assumes nothing.
use mathlib.Core.Bool.{true}
use mathlib.Core.Path.{◌≡◌}
use lib.ListN.{take}
use Rattle.lists.specs.Search.{all}
use Rattle.plain.specs.InRange.{phase_in}
use Rattle.records.specs.View.{phase_of}
use Rattle.records.proofs.bounds.Bounds.stations_in.Given as goal

abbrev pub invariant-loop-station : goal.invariant-loop-station
invariant-loop-station l = all (λ s. phase_in l.self.stations l.self.stock l.table (phase_of s)) (take l.station-index l.stations) ≡ true
