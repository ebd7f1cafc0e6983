-- `arbiters::lending::granted_set` meets its contract. A set of twelve stations fits.
-- Assumes nothing.
use Rattle.std.proofs.Common.{suc, arith}
use lib.Pow.{pow_mono}
use Rattle.stations.proofs.Built.{set_below, only_below}
use Rattle.arbiters.specs.Lent.{is_granted}
use Rattle.arbiters.proofs.lending.granted_set.Goals as goal

pub overflow_add-set : goal.overflow_add-set
overflow_add-set c =
    let l = c.loop-t in
    record { fits = omega (arith, l.invariant, c.only-set.ensures, only_below l.t (omega arith), set_below (is_granted c.args.granted.now) l.t, pow_mono {i = suc l.t} {j = 16} (omega arith)) }
