-- `tables::cubes::Cube::quorum_of` meets its contract. The loop's invariant: the stations below q that agree with p.
-- Assumes nothing.
use Rattle.std.proofs.Common.{◌≡◌, ◌+◌, refl, sym, ap, ◌∙◌, arith}
use mathlib.Core.Path.{ap₂}
use Prim.Native.Nat.{suc}
use lib.Pow.{pow_mono}
use Rattle.stations.specs.Sets.{set_of}
use Rattle.stations.proofs.Built.{set_below, set_pass, set_fail, only_below}
use Rattle.tables.specs.Cube.{cube_stations, agree, cube_quorum}
use Rattle.tables.proofs.cubes.Cube.quorum_of.Goals as goal
use Rattle.tables.proofs.cubes.Cube.quorum_of.Goals.{else-agree, then-agree}

pub loop-q-init : goal.loop-q-init
unfolding set_of
loop-q-init c = refl

pub overflow_add-quorum : goal.overflow_add-quorum
overflow_add-quorum c =
    let at = c.loop-q in
    let f = agree c.args.self.a (c.args.self.k + 1) c.args.p in
    record { fits = omega (arith, at.invariant, c.only-quorum.ensures, only_below at.q (omega arith), set_below f at.q, pow_mono {i = suc at.q} {j = 16} (omega arith)) }

pub loop-q-preserved : goal.loop-q-preserved
loop-q-preserved c =
    let at = c.loop-q in
    let f = agree c.args.self.a (c.args.self.k + 1) c.args.p in
    elim c.if-agree.branch [ then-agree w ↦ w.quorum-is ∙ ap₂ ◌+◌ at.invariant (w.only-quorum.ensures ∙ only_below at.q (omega arith)) ∙ set_pass f at.q (sym c.agree.ensures ∙ w.if-agree.true) | else-agree w ↦ w.quorum-is ∙ at.invariant ∙ set_fail f at.q (sym c.agree.ensures ∙ w.if-agree.false) ]

pub returns : goal.returns
unfolding cube_quorum
returns c =
    let at = c.loop-q in
    let end : at.q ≡ cube_stations c.args.self.a c.args.self.k = omega (arith, c.args.self.power) in
    at.invariant ∙ ap (set_of (agree c.args.self.a (c.args.self.k + 1) c.args.p)) end
