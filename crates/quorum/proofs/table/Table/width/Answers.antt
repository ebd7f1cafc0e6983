-- `Table::width` meets its contract. The byte of all n stations lies in the scratch, since 2^n is at most 4,096.
-- Assumes nothing.
use mathlib.Core.Path.{◌∙◌}
use native.Mathlib.Omega.{arith}
use Rattle.stations.proofs.Members.{everyone-le, everyone-min}
use Rattle.quorum.proofs.table.Table.width.Goals as goal

pub bounds-bytes-everyone : goal.bounds-bytes-everyone
bounds-bytes-everyone c =
    let n = c.args.self.now.stations in
    omega (arith, c.everyone.ensures ∙ everyone-min n (omega arith), everyone-le {n = n} {m = 12} (omega arith))
