-- `calls::releases::send_row` meets its contract. The lanes and the phase are stored.
-- Assumes nothing.
use native.Mathlib.Omega.{arith}
use Rattle.calls.proofs.GivingBack.{row_stored}
use Rattle.calls.proofs.releases.send_row.Goals as goal

pub returns : goal.returns
returns c =
    let x = c.args in
    row_stored x.r.now x.s x.phase x.row c.requires.1 (omega arith) (omega arith)
