-- `arbiters::dropping::forget` meets its contract. What was kept before the entry in hand, and what is kept of the rest; the grant is cleared.
-- Assumes nothing.
use Rattle.std.proofs.Common.{◌≡◌, ◌≤◌, length, take}
use lib.ListN.{set}
use Rattle.units.specs.Units.{no_units}
use Rattle.plain.specs.Arbiter.{without}
use Rattle.arbiters.proofs.DroppingEntries.{kept_then}
use Rattle.arbiters.proofs.dropping.forget.Given as goal

abbrev pub invariant-loop-e : goal.invariant-loop-e
invariant-loop-e l = record {
  fewer : l.rest.len ≤ l.e-index;
  places : length l.rest.line ≡ 12;
  granted : l.rest.granted ≡ set l.fn.a.granted l.s no_units;
  kept : without l.s (take l.fn.a.len l.fn.a.line) ≡ kept_then l.s (take l.fn.a.len l.fn.a.line) l.rest.line l.rest.len l.e-index;
}
