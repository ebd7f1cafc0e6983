-- `machine::inspect` meets its contract. The check first; what it refuses gets the empty record.
-- Assumes nothing.
use mathlib.Core.Bool.{true}
use mathlib.Core.List.{List}
use mathlib.Core.Path.{◌≡◌, sym, ap, ◌∙◌}
use Prim.Native.Nat.{ℕ}
use lib.ListN.{length}
use Rattle.std.specs.Prelude.{Result, Ok}
use borrow.Author.Tests.{le-leb}
use Rattle.lists.proofs.Tests.{and_both}
use Rattle.quorum.specs.Answer.{said, answer}
use Rattle.quorum.specs.Limits.{most_units, up_to}
use Rattle.quorum.specs.Refusal.{refusal}
use Rattle.quorum.specs.declared.Accepted.{Accepted}
use Rattle.quorum.specs.declared.Rejected.{Rejected}
use Rattle.quorum.proofs.Promises.{passed_limits, Limits, said-refusal}
use Rattle.units.specs.Units.{asked_with, stock_of, storable}
use Rattle.units.specs.declared.Units.{Units}
use Rattle.units.proofs.Numbers.{asked-stored, stock-stored}
use Rattle.machine.proofs.CheckingStock.{checked}
use Rattle.machine.proofs.OpeningRecord.{rejected-number, some_rejection, opening-refused, opening-fresh}
use Rattle.machine.proofs.inspect.Goals as goal
use Rattle.machine.proofs.inspect.Goals.{After-check-checked}

-- what the check answers, asked with the units of the stock that the number k stands for
module _ (n k : ℕ) (table : List ℕ) (room : ℕ) (stock : Units) (stored : stock ≡ storable stock_of k) (units : ℕ) (with_stock : units ≡ asked_with stock) (found : Result Accepted Rejected)
    (answered : said found ≡ answer n units table room) where
  -- which is the caller's, where nothing is refused
  is_stock : up_to most_units (asked_with (stock_of k)) ≡ true → stock ≡ stock_of k
  is_stock kept = stored ∙ stock-stored k (asked-stored k ∙ kept)

  -- the refusal that it gives
  refused : (said found).refusal ≡ refusal n (asked_with (stock_of k)) table room
  refused = said-refusal n (asked_with (stock_of k)) table room found (checked n k table room stock units found stored with_stock answered)

-- the check's whole answer, and the refusal in it
module _ (c : After-check-checked) where
  abbrev room : ℕ
  room = length c.args.scratch.now

  turned : (said c.check-checked.result).refusal ≡ refusal c.args.n (asked_with (stock_of c.args.k)) c.args.quorums.now room
  turned = refused c.args.n c.args.k c.args.quorums.now room _ c.stock_of-stock.ensures _ c.asked_with.ensures c.check-checked.result c.check-checked.ensures.answered

  -- where nothing is refused
  module _ (accepted : Accepted) (is : c.check-checked.result ≡ Ok accepted) where
    none : (said c.check-checked.result).refusal ≡ 0
    none = ap (λ (found : Result Accepted Rejected). (said found).refusal) is

    -- the limits are kept
    kept : Limits c.args.n (asked_with (stock_of c.args.k)) c.args.quorums.now
    kept = passed_limits c.args.n (asked_with (stock_of c.args.k)) c.args.quorums.now room (sym turned ∙ none)

    same : c.stock_of-stock.result ≡ stock_of c.args.k
    same =
        let (some, most) = kept.stock in
        let units = asked_with (stock_of c.args.k) in
        is_stock c.args.n c.args.k c.args.quorums.now room _ c.stock_of-stock.ensures _ c.asked_with.ensures c.check-checked.result c.check-checked.ensures.answered
        (and_both (le-leb 1 units some) (le-leb units most_units most))

pub fresh-record-requires : goal.fresh-record-requires
fresh-record-requires c =
    let limits = kept (goal.at.fresh-record-requires c).After-check-checked c.in-Ok.field-0 c.in-Ok.is in
    (limits.stations.1, limits.quorums.1)

pub returns-in-Ok-clause-state : goal.returns-in-Ok-clause-state
returns-in-Ok-clause-state c =
    let x = c.args in
    let here = (goal.at.returns-in-Ok-clause-state c).After-check-checked in
    opening-fresh x.n (stock_of x.k) x.quorums.now (length x.scratch.now) _ (turned here) _ (none here c.in-Ok.field-0 c.in-Ok.is) (rw (same here c.in-Ok.field-0 c.in-Ok.is) at c.fresh-record.ensures)

pub returns-in-Err-clause-state : goal.returns-in-Err-clause-state
returns-in-Err-clause-state c =
    let x = c.args in
    let here = (goal.at.returns-in-Err-clause-state c).After-check-checked in
    let is = ap (λ (found : Result Accepted Rejected). (said found).refusal) c.in-Err.is ∙ rejected-number c.in-Err.field-0 in
    opening-refused x.n (stock_of x.k) x.quorums.now (length x.scratch.now) _ (turned here) _ (λ z. some_rejection c.in-Err.field-0 (sym is ∙ z)) c.empty-record.ensures
