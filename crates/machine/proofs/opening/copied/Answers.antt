-- `machine::opening::copied` meets its contract. The places before the one in hand have the quorums of their numbers.
-- Assumes nothing.
use mathlib.Core.List.{List, ◌∷◌, [], ◌++◌}
use mathlib.Core.Path.{◌≡◌, refl, sym, ap, ◌∙◌}
use Prim.Native.Nat.{ℕ}
use native.Mathlib.Omega.{arith}
use lib.ListN.{length, get_or}
use borrow.Author.Rules.{rules}
use Rattle.lists.proofs.Cuts.{cut_push, cut-more, cut_all}
use Rattle.machine.proofs.opening.copied.Goals as goal

pub loop-p-init : goal.loop-p-init
loop-p-init c = (search rules, search rules, refl)

pub loop-p-preserved : goal.loop-p-preserved
loop-p-preserved c =
    let l = c.loop-p in
    let q = c.args.quorums.now in
    let put = cut_push 0 l.p l.table (get_or q l.p 0) (omega arith) in
    (search rules, search rules, put ∙ ap (λ (xs : List ℕ). xs ++ (get_or q l.p 0 ∷ [])) l.invariant.2 ∙ sym (cut-more 0 l.p q))

pub returns : goal.returns
returns c =
    let l = c.loop-p in
    let q = c.args.quorums.now in
    let e : l.p ≡ length q = omega arith in
    rw e at l.invariant.2 ∙ cut_all 0 q
