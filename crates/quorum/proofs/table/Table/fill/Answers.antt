-- `Table::fill` meets its contract. The loop's invariant: the byte of every set of stations below i says what that set needs.
-- Assumes nothing.
use mathlib.Core.Path.{◌≡◌}
use native.Mathlib.Omega.{arith}
use Rattle.quorum.proofs.Needing.{filled_zero}
use Rattle.quorum.proofs.table.Table.fill.Goals as goal

pub loop-i-init : goal.loop-i-init
loop-i-init c = let table = c.args.self.now in filled_zero table.stations table.quorums.now (omega arith) c.args.bytes.now (omega arith)

pub returns : goal.returns
returns c =
    let all : c.loop-i.i ≡ c.args.self.now.stations = omega arith in
    rw all at c.loop-i.invariant
