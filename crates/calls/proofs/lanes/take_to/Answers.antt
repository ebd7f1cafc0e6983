-- `calls::lanes::take_to` meets its contract. One lane is another.
-- Assumes nothing.
use mathlib.Core.List.{List}
use mathlib.Core.Path.{sym, ap, ◌∙◌}
use native.Mathlib.Omega.{arith}
use lib.ListN.{drop}
use Rattle.lists.specs.At.{at}
use Rattle.plain.specs.declared.Message.{Message}
use Rattle.records.specs.View.{row_of}
use Rattle.records.proofs.Viewing.{row_at, row_with}
use Rattle.calls.proofs.lanes.take_to.Goals as goal

pub returns : goal.returns
returns c =
    let w = c.args.w.now in
    λ n h. row_with n w c.args.j c.take.new.l h (omega arith)
    ∙ ap (at (row_of n w) c.args.j) (c.take.ensures ∙ ap (λ (l : List Message). drop 1 l) (sym (row_at n w c.args.j h)))
