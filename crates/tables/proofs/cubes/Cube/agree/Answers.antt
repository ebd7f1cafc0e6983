-- `tables::cubes::Cube::agree` meets its contract. The loop's invariant: what is left of two stations that agree in none of the first i coordinates.
-- Assumes nothing.
use Rattle.std.proofs.Common.{◌≡◌, ℕ, ◌+◌, sym, ap, ◌∙◌, arith}
use Rattle.tables.specs.Cube.{agree}
use Rattle.tables.proofs.Coordinates.{apart_start, apart_agree, apart_next}
use Rattle.tables.proofs.cubes.Cube.agree.Goals as goal

pub loop-init : goal.loop-init
loop-init c = apart_start c.args.self.a c.args.p c.args.q

pub returns-then-left-self : goal.returns-then-left-self
returns-then-left-self c =
    let at = c.loop in
    sym (apart_agree c.args.self.a c.args.p c.args.q at.counter at.left at.right at.invariant (c.args.self.k + 1) (omega arith) c.if-left-self.true)

pub loop-preserved : goal.loop-preserved
loop-preserved c =
    let at = c.loop in
    apart_next c.args.self.a c.args.p c.args.q at.counter at.left at.right at.invariant c.if-left-self.false

pub returns-else-left-self : goal.returns-else-left-self
returns-else-left-self c =
    let at = c.loop in
    let last : at.counter + 1 ≡ c.args.self.k + 1 = omega arith in
    sym (ap (λ (d : ℕ). agree c.args.self.a d c.args.p c.args.q) (sym last) ∙ (apart_next c.args.self.a c.args.p c.args.q at.counter at.left at.right at.invariant c.if-left-self.false).none)
