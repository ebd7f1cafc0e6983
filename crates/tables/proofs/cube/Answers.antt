-- `tables::cube` meets its contract: refused, or all quorums stored from the front.
-- Assumes nothing.
use Rattle.std.proofs.Common.{length, sym, ap, ◌∙◌, arith}
use mathlib.Core.Path.{ap₂}
use lib.Seq.{sets}
use Rattle.tables.specs.Cube.{cube_table, cube_stations}
use Rattle.tables.proofs.Making.{on_table}
use Rattle.tables.proofs.CubeArbiter.{cube_kept, cube_length}
use Rattle.tables.proofs.cube.Goals as goal

pub write-requires : goal.write-requires
write-requires c =
    let (a, k) = c.in_ok-cube.ensures.made in
    let kept = cube_kept c.args.a c.args.k (length c.args.out.now) (sym c.in_ok-cube.ensures.refused) in
    let cube = c.in_ok-cube.cube in
    omega (arith, kept.enough, cube.power, ap₂ cube_stations a k)

pub returns : goal.returns
returns c =
    let (a, k) = c.in_ok-cube.ensures.made in
    let kept = cube_kept c.args.a c.args.k (length c.args.out.now) (sym c.in_ok-cube.ensures.refused) in
    let cube = c.in_ok-cube.cube in
    let (answered, written) = on_table (cube_table c.args.a c.args.k) c.args.out.now _
    cube.stations c.write.new.out c.in_ok-cube.ensures.refused
    (cube.power ∙ ap₂ cube_stations a k ∙ sym (cube_length c.args.a c.args.k))
    (omega (arith, cube_length c.args.a c.args.k, kept.enough))
    (c.write.ensures ∙ ap (sets c.args.out.now 0) (ap₂ cube_table a k)) in
    record { answered = answered; written = written }
