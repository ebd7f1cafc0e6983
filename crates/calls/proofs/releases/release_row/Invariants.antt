-- `calls::releases::release_row` meets its contract. The stations before the one in hand have their RELEASE, and no lane passed its limit.
-- Assumes nothing.
use mathlib.Core.Bool.{false}
use mathlib.Core.Path.{◌≡◌}
use Rattle.lists.specs.Search.{some_below}
use Rattle.plain.specs.Release.{release_passes}
use Rattle.records.specs.View.{row_of}
use Rattle.calls.proofs.ReleasingRow.{released-below}
use Rattle.calls.proofs.releases.release_row.Given as goal

abbrev pub invariant-loop-j : goal.invariant-loop-j
invariant-loop-j l = (row_of l.n l.w ≡ released-below l.set (row_of l.n l.fn.w) l.j) × (some_below (release_passes l.set (row_of l.n l.fn.w)) l.j ≡ false)
