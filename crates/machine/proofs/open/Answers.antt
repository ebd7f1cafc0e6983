-- `machine::open` meets its contract. What `inspect` answers, of which the check's refusal is kept.
-- Assumes nothing.
use mathlib.Core.Path.{◌≡◌, sym, ap, ◌∙◌}
use lib.ListN.{length}
use Rattle.std.specs.Prelude.{Result}
use Rattle.quorum.specs.Answer.{said}
use Rattle.quorum.specs.Refusal.{refusal}
use Rattle.quorum.specs.declared.Accepted.{Accepted}
use Rattle.quorum.specs.declared.Rejected.{Rejected}
use Rattle.quorum.proofs.Promises.{said-refusal}
use Rattle.units.specs.Units.{asked_with, stock_of}
use Rattle.machine.proofs.OpeningRecord.{rejected-number, opening_both}
use Rattle.machine.proofs.open.Goals as goal
use Rattle.machine.proofs.open.Goals.{After-inspect-checked}

-- the refusal in what the check answers
turned : (c : After-inspect-checked) → (said c.inspect-checked.result.checked).refusal ≡ refusal c.args.n (asked_with (stock_of c.args.k)) c.args.quorums.now (length c.args.scratch.now)
turned c = said-refusal c.args.n (asked_with (stock_of c.args.k)) c.args.quorums.now (length c.args.scratch.now) c.inspect-checked.result.checked c.inspect-checked.ensures.checked

pub returns-in-Ok-clause-opened : goal.returns-in-Ok-clause-opened
returns-in-Ok-clause-opened c =
    let x = c.args in
    let is = ap (λ (found : Result Accepted Rejected). (said found).refusal) c.in-Ok.is in
    opening_both x.n (stock_of x.k) x.quorums.now (length x.scratch.now) _ (sym is ∙ turned (goal.at.returns-in-Ok-clause-opened c).After-inspect-checked) c.inspect-checked.ensures.state

pub returns-in-Err-clause-opened : goal.returns-in-Err-clause-opened
returns-in-Err-clause-opened c =
    let x = c.args in
    let is = ap (λ (found : Result Accepted Rejected). (said found).refusal) c.in-Err.is ∙ rejected-number c.in-Err.rejected in
    opening_both x.n (stock_of x.k) x.quorums.now (length x.scratch.now) _ (c.refusal.ensures ∙ sym is ∙ turned (goal.at.returns-in-Err-clause-opened c).After-inspect-checked) c.inspect-checked.ensures.state
