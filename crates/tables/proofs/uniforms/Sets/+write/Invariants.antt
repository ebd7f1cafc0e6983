-- `tables::uniforms::Sets::write`, which calls itself, meets its contract. The measure is the number of stations.
-- Assumes nothing.
use Rattle.tables.proofs.uniforms.Sets.+write.Given as goal

abbrev pub decreases-write : goal.decreases-write
decreases-write l = l.self.stations
