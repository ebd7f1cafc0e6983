-- `tables::cubes::Cube::quorum_of` meets its contract. The loop's invariant: the stations below q that agree with p.
-- Assumes nothing.
use Rattle.std.proofs.Common.{◌≡◌, ◌+◌}
use Rattle.stations.specs.Sets.{set_of}
use Rattle.tables.specs.Cube.{agree}
use Rattle.tables.proofs.cubes.Cube.quorum_of.Given as goal

abbrev pub invariant-loop-q : goal.invariant-loop-q
invariant-loop-q l = l.quorum ≡ set_of (agree l.self.a (l.self.k + 1) l.p) l.q
