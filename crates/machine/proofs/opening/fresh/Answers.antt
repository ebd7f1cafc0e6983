-- `machine::opening::fresh` meets its contract. The table is copied into its array.
-- Assumes nothing.
use mathlib.Core.Path.{ap, ◌∙◌}
use Rattle.plain.specs.State.{fresh}
use Rattle.machine.proofs.opening.fresh.Goals as goal

pub returns : goal.returns
returns c =
    c.blank.ensures ∙ ap (fresh c.args.n c.args.stock) c.copied-table.ensures
