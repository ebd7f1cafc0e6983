-- `Table::first_family` meets its contract. The loop's invariant is `Taking`: what is taken, and what will be, are the lowering quorums.
-- Assumes nothing.
use native.Mathlib.Omega.{arith}
use lib.Bits.{and_le_l}
use lib.ListN.{get_or}
use lib.Pow.{pow_mono}
use Rattle.quorum.proofs.Taking.{taking_room, taking_takes, taking_skips, taking_all}
use Rattle.quorum.proofs.table.Table.first_family.Goals as goal
use Rattle.quorum.proofs.table.Table.first_family.Goals.{else-bytes-left, then-bytes-left}

pub bounds-bytes-left : goal.bounds-bytes-left
bounds-bytes-left c =
    omega (arith, c.common-left.ensures, and_le_l, c.loop-p.invariant.fits, pow_mono {i = c.args.self.now.stations} {j = 12} (omega arith))

pub bounds-bytes-rest : goal.bounds-bytes-rest
bounds-bytes-rest c = omega (arith, c.loop-p.invariant.fits, pow_mono {i = c.args.self.now.stations} {j = 12} (omega arith))

pub bounds-family-size : goal.bounds-family-size
bounds-family-size c =
    let at = c.loop-p in
    let table = c.args.self.now in
    taking_room table.stations table.quorums.now c.args.bytes.now (omega arith) c.requires.needs (omega arith) c.requires.some at.family at.size at.rest at.p at.invariant
    (get_or c.args.bytes.now c.common-left.result 0) c.if-bytes-left.true

pub loop-p-preserved : goal.loop-p-preserved
loop-p-preserved c =
    let at = c.loop-p in
    let n = c.args.self.now.stations in
    let table = c.args.self.now.quorums.now in
    let bytes = c.args.bytes.now in
    let left = c.common-left.result in
    let is = c.common-left.ensures in
    elim c.if-bytes-left.branch [
      | then-bytes-left w ↦ rw (w.family-is, w.size-is, w.rest-is)
          (taking_takes n table bytes (omega arith) c.requires.needs (omega arith) c.requires.some at.family at.size at.rest at.p at.invariant (omega arith) left is w.if-bytes-left.true)
      | else-bytes-left w ↦ rw (w.family-is, w.size-is, w.rest-is)
          (taking_skips n table bytes (omega arith) c.requires.needs (omega arith) c.requires.some at.family at.size at.rest at.p at.invariant (omega arith) left is w.if-bytes-left.false)
    ]

pub returns : goal.returns
returns c =
    let at = c.loop-p in
    let table = c.args.self.now in
    taking_all table.stations table.quorums.now c.args.bytes.now (omega arith) c.requires.needs (omega arith) c.requires.some at.family at.size at.rest at.p at.invariant (omega arith)
