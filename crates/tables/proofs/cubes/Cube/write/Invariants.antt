-- `tables::cubes::Cube::write` meets its contract. The loop's invariant: the quorums of the stations below p are stored, from the front.
-- Assumes nothing.
use Rattle.std.proofs.Common.{◌≡◌}
use Rattle.std.proofs.lemmas.List.Edits.{sets}
use Rattle.lists.specs.Counting.{each}
use Rattle.tables.specs.Cube.{cube_quorum}
use Rattle.tables.proofs.cubes.Cube.write.Given as goal

abbrev pub invariant-loop-p : goal.invariant-loop-p
invariant-loop-p l = l.place-items ≡ sets l.initial.place-items 0 (each (cube_quorum l.self.a l.self.k) l.p)
