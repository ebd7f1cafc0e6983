-- `Table::within_limits` meets its contract: a table that breaks no limit keeps what they say in numbers.
-- Assumes nothing.
use mathlib.Core.Path.{sym}
use Rattle.quorum.proofs.LimitLaws.{limits_kept}
use Rattle.quorum.proofs.table.Table.within_limits.Goals as goal

pub invariant_of-result : goal.invariant_of-result
invariant_of-result c =
    let none = sym c.in_ok-kept.ensures in
    let limits = limits_kept c.args.stations c.args.stock c.args.quorums.now none in
    record {
      kept = none;
      some_stations = limits.stations.0;
      few_stations = limits.stations.1;
      small_stock = limits.stock.1;
      some_quorums = limits.quorums.0;
      few_quorums = limits.quorums.1;
    }
