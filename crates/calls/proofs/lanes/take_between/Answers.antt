-- `calls::lanes::take_between` meets its contract. One row is another.
-- Assumes nothing.
use mathlib.Core.List.{List}
use mathlib.Core.Path.{sym, ap, ◌∙◌}
use Prim.Native.Nat.{ℕ}
use native.Mathlib.Omega.{arith}
use lib.ListN.{drop}
use Rattle.lists.specs.At.{at}
use Rattle.plain.specs.declared.Message.{Message}
use Rattle.records.specs.View.{lanes_of}
use Rattle.records.proofs.Viewing.{rows_at, rows_with}
use Rattle.calls.proofs.lanes.take_between.Goals as goal

pub returns : goal.returns
returns c =
    let t = c.args.all.now in
    let j = c.args.j in
    λ n p q. rows_with n t c.args.s c.take_to.new.w p (omega arith)
    ∙ ap (at (lanes_of n t) c.args.s) (c.take_to.ensures n q ∙ ap (λ (row : ℕ → List Message). at row j (drop 1 (row j))) (sym (rows_at n t c.args.s p)))
