-- `Table::has_equal_shares` meets its contract. The loop's invariant: every station below i belongs to as many quorums as station 0.
-- Assumes nothing.
use mathlib.Core.Path.{sym, ◌∙◌}
use Prim.Native.Nat.{ℕ}
use native.Mathlib.Omega.{arith}
use lib.Dec.{eqb}
use borrow.Author.Count.{below_more}
use borrow.Author.Tests.{eq-eqb, ne_eqb}
use Rattle.lists.proofs.Searches.{every_true, every_false}
use Rattle.quorum.specs.Even.{belongs}
use Rattle.quorum.proofs.table.Table.has_equal_shares.Goals as goal

pub returns-then-quorums_of-first : goal.returns-then-quorums_of-first
returns-then-quorums_of-first c =
    let at = c.loop-i in
    let table = c.args.self.now.quorums.now in
    sym (every_false (λ (i : ℕ). eqb (belongs table i) (belongs table 0)) c.args.self.now.stations at.i (omega arith)
    (ne_eqb (belongs table at.i) (belongs table 0) (λ e. c.if-quorums_of-first.true (c.quorums_of.ensures ∙ e ∙ sym at.invariant.0))))

pub loop-i-preserved : goal.loop-i-preserved
loop-i-preserved c =
    let at = c.loop-i in
    (at.invariant.0, below_more _ at.i at.invariant.1 (sym c.quorums_of.ensures ∙ c.if-quorums_of-first.false ∙ at.invariant.0))

pub returns : goal.returns
returns c =
    let at = c.loop-i in
    let table = c.args.self.now.quorums.now in
    sym (every_true (λ (i : ℕ). eqb (belongs table i) (belongs table 0)) c.args.self.now.stations (λ i h. eq-eqb (belongs table i) (belongs table 0) (at.invariant.1 i (omega arith))))
