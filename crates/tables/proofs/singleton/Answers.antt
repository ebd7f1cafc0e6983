-- `tables::singleton` meets its contract: refused, or the station stored at the front.
-- Assumes nothing.
use Rattle.std.proofs.Common.{length, refl, sym, ap, ◌∙◌, arith}
use lib.ListN.{set}
use Rattle.stations.proofs.Built.{only_below}
use Rattle.tables.specs.Singleton.{singleton_table}
use Rattle.tables.proofs.Making.{on_table}
use Rattle.tables.proofs.SingletonArbiter.{singleton_kept}
use Rattle.tables.proofs.singleton.Goals as goal

pub bounds-out-0 : goal.bounds-out-0
bounds-out-0 c =
    omega (arith, (singleton_kept c.args.n c.args.station (length c.args.out.now) (sym c.in_ok-fits.ensures)).enough)

pub returns : goal.returns
unfolding singleton_table
returns c =
    let kept = singleton_kept c.args.n c.args.station (length c.args.out.now) (sym c.in_ok-fits.ensures) in
    let (answered, written) = on_table (singleton_table c.args.station) c.args.out.now _
    1 _ c.in_ok-fits.ensures refl kept.enough
    (ap (set c.args.out.now 0) (c.only.ensures ∙ only_below c.args.station (omega (arith, kept.below, kept.stations.1)))) in
    record { answered = answered; written = written }
