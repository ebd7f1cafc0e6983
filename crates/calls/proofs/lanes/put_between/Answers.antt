-- `calls::lanes::put_between` meets its contract. One row is another.
-- Assumes nothing.
use mathlib.Core.List.{List, [], ◌∷◌}
use mathlib.Core.Path.{sym, ap, ◌∙◌}
use Prim.Native.Nat.{ℕ}
use native.Mathlib.Omega.{arith}
use Rattle.std.proofs.lemmas.Result.{on_ok_weaker}
use Rattle.lists.specs.At.{at}
use Rattle.lists.specs.Broken.{◌when◌, first_broken}
use Rattle.plain.specs.Lanes.{no_place, passes, sent}
use Rattle.plain.specs.declared.Message.{Message}
use Rattle.records.specs.View.{lanes_of}
use Rattle.records.proofs.Viewing.{rows_at, rows_with}
use Rattle.calls.proofs.lanes.put_between.Goals as goal

pub returns-clause-refusal : goal.returns-clause-refusal
returns-clause-refusal c =
    let x = c.args in
    λ n p q. c.put_to.ensures.refusal n q ∙ ap (λ (row : ℕ → List Message). first_broken (no_place when passes x.places (sent (row x.j) x.m) ∷ [])) (sym (rows_at n x.all.now x.s p))

pub returns-clause-lanes : goal.returns-clause-lanes
returns-clause-lanes c =
    let t = c.args.all.now in
    let s = c.args.s in
    let j = c.args.j in
    on_ok_weaker c.put_to.result
    (λ put n p q. rows_with n t s c.put_to.new.w p (omega arith) ∙ ap (at (lanes_of n t) s) (put n q ∙ ap (λ (row : ℕ → List Message). at row j (sent (row j) c.args.m)) (sym (rows_at n t s p))))
    c.put_to.ensures.row
