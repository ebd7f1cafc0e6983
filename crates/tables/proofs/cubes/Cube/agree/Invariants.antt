-- `tables::cubes::Cube::agree` meets its contract. The loop's invariant: what is left of two stations that agree in none of the first i coordinates.
-- Assumes nothing.
use Rattle.tables.proofs.Coordinates.{Apart}
use Rattle.tables.proofs.cubes.Cube.agree.Given as goal

abbrev pub invariant-loop : goal.invariant-loop
invariant-loop l = Apart l.self.a l.p l.q l.counter l.left l.right
