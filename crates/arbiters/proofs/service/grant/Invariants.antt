-- `arbiters::service::grant` meets its contract. What was granted before entry i, and what service makes of the rest.
-- Assumes nothing.
use Rattle.std.proofs.Common.{◌≡◌, length}
use Rattle.units.specs.Granted.{granted_of}
use Rattle.plain.specs.Arbiter.{serve}
use Rattle.arbiters.proofs.ServingLine.{from_entry}
use Rattle.arbiters.proofs.service.grant.Given as goal

abbrev pub invariant-loop-i : goal.invariant-loop-i
invariant-loop-i l = record {
  places : length l.granted ≡ 12;
  served : serve l.n l.stock (granted_of l.n l.initial.granted) l.line ≡ from_entry l.n l.stock l.line l.i l.granted;
}
