-- `calls::lanes::put_to` meets its contract. One lane is another.
-- Assumes nothing.
use mathlib.Core.List.{List, [], ◌∷◌}
use mathlib.Core.Path.{sym, ap, ◌∙◌}
use native.Mathlib.Omega.{arith}
use Rattle.std.proofs.lemmas.Result.{on_ok_weaker}
use Rattle.lists.specs.At.{at}
use Rattle.lists.specs.Broken.{◌when◌, first_broken}
use Rattle.plain.specs.Lanes.{no_place, passes, sent}
use Rattle.plain.specs.declared.Message.{Message}
use Rattle.records.specs.View.{row_of}
use Rattle.records.proofs.Viewing.{row_at, row_with}
use Rattle.calls.proofs.lanes.put_to.Goals as goal

pub returns-clause-refusal : goal.returns-clause-refusal
returns-clause-refusal c =
    let x = c.args in
    λ n h. c.put.ensures.refusal ∙ ap (λ (l : List Message). first_broken (no_place when passes x.places (sent l x.m) ∷ [])) (sym (row_at n x.w.now x.j h))

pub returns-clause-row : goal.returns-clause-row
returns-clause-row c =
    let w = c.args.w.now in
    let j = c.args.j in
    on_ok_weaker c.put.result
    (λ put n h. row_with n w j c.put.new.l h (omega arith) ∙ ap (at (row_of n w) j) (put ∙ ap (λ (l : List Message). sent l c.args.m) (sym (row_at n w j h))))
    c.put.ensures.lane
