-- `units::fits` meets its contract. What the stations before the one in hand were granted, beside the units; each has at most 255.
-- Assumes nothing.
use Rattle.std.proofs.Common.{◌≡◌, ◌≤◌, ◌+◌, ◌*◌}
use Rattle.lists.specs.Counting.{total}
use Rattle.units.specs.Granted.{granted_of}
use Rattle.units.proofs.fitting.fits.Given as goal

abbrev pub invariant-loop-units : goal.invariant-loop-units
invariant-loop-units l = (l.sum ≡ l.initial.sum + total (λ i. (granted_of l.n l.fn.granted i).positions) l.units-index) × (l.sum ≤ 255 * l.units-index + 255)
