-- `tables::uniforms::Sets::count` meets its contract. The loop's invariant: the number of sets of i stations.
-- Assumes nothing.
use Rattle.std.proofs.Common.{ℕ, ◌+◌, ◌-◌, ◌*◌, ◌/◌, ap, ◌∙◌, arith, rules}
use Rattle.stations.specs.Sizes.{choose}
use Rattle.stations.proofs.Choosing.{choose-small, choose-next}
use Rattle.quorum.specs.Limits.{most_stations}
use Rattle.tables.proofs.uniforms.Sets.count.Goals as goal

pub loop-i-init : goal.loop-i-init
unfolding choose
loop-i-init c = search rules

pub overflow_mul-sets : goal.overflow_mul-sets
overflow_mul-sets c =
    let at = c.loop-i in
    record { fits = rw at.invariant (omega (arith, choose-small c.args.self.stations at.i most_stations (omega arith))) }

pub loop-i-preserved : goal.loop-i-preserved
loop-i-preserved c =
    let n = c.args.self.stations in
    let at = c.loop-i in
    ap (λ (x : ℕ). x * (n - at.i) / (at.i + 1)) at.invariant ∙ choose-next n at.i (omega arith)
