-- `tables::uniforms::Sets::count` meets its contract. The loop's invariant: the number of sets of i stations.
-- Assumes nothing.
use Rattle.std.proofs.Common.{◌≡◌}
use Rattle.stations.specs.Sizes.{choose}
use Rattle.tables.proofs.uniforms.Sets.count.Given as goal

abbrev pub invariant-loop-i : goal.invariant-loop-i
invariant-loop-i l = l.sets ≡ choose l.self.stations l.i
