-- `tables::cubes::Cube::write` meets its contract. The loop's invariant: the quorums of the stations below p are stored, from the front.
-- Assumes nothing.
use Rattle.std.proofs.Common.{◌≡◌, ℕ, ◌≤◌, List, ◌++◌, length, take, drop, refl, ap, ◌∙◌, arith}
use mathlib.Core.Path.{ap₂}
use lib.ListN.{set}
use lib.Seq.{sets}
use Rattle.std.proofs.lemmas.List.{length-take-le}
use Rattle.lists.specs.Counting.{each}
use Rattle.lists.proofs.Counting.{each_store, each-length}
use Rattle.tables.specs.Cube.{cube_quorum, cube_table}
use Rattle.tables.proofs.Making.{sets_part}
use Rattle.tables.proofs.cubes.Cube.write.Goals as goal

pub loop-p-init : goal.loop-p-init
unfolding each
loop-p-init c = refl

pub loop-p-preserved : goal.loop-p-preserved
loop-p-preserved c =
    let at = c.loop-p in
    ap₂ (λ (l : List ℕ) (q : ℕ). set l at.p q) at.invariant c.quorum_of.ensures ∙ each_store (cube_quorum c.args.self.a c.args.self.k) (take c.args.self.stations c.args.out.now) at.p

pub returns : goal.returns
unfolding cube_table
returns c =
    let n = c.args.self.stations in
    let out = c.args.out.now in
    let quorums : ℕ → List ℕ = each (cube_quorum c.args.self.a c.args.self.k) in
    let room : n ≤ length out = c.requires in
    let end : c.loop-p.p ≡ n = omega (arith, length-take-le n out room) in
    ap (λ (l : List ℕ). l ++ drop n out) (c.loop-p.invariant ∙ ap (λ (p : ℕ). sets (take n out) 0 (quorums p)) end)
    ∙ sets_part n out (quorums n) room (each-length (cube_quorum c.args.self.a c.args.self.k) n)
    ∙ ap (λ (p : ℕ). sets out 0 (quorums p)) c.args.self.power
