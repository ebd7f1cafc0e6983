-- `outages::count` meets its contract: what the check refuses is refused, and otherwise all sets are counted. The scratch is as the check leaves it.
-- Assumes nothing.
use Rattle.std.proofs.Common.{◌≡◌, ◌≤◌, length, refl, sym, ◌∙◌}
use Rattle.std.proofs.lemmas.Result.{err_from_is_err_and}
use Rattle.std.specs.Prelude.{Ok, Err}
use Rattle.quorum.specs.Answer.{said, rejection_of}
use Rattle.quorum.specs.Limits.{most_stations}
use Rattle.quorum.specs.Refusal.{refusal}
use Rattle.quorum.specs.declared.Rejected.{Rejected}
use Rattle.quorum.specs.declared.Rejected.TheVariants.{Refused, NoCommonMember, Nested}
use Rattle.quorum.proofs.Promises.{said-refusal, passed_limits}
use Rattle.outages.proofs.Answering.{refused_is, counted_is}
use Rattle.outages.proofs.count.Goals as goal
use Rattle.outages.proofs.count.Goals.{In_ok-check}

-- what the check accepts it does not refuse
none : (c : In_ok-check) → 0 ≡ refusal c.args.n c.args.k c.args.quorums.now (length c.args.scratch.now)
none c = said-refusal c.args.n c.args.k c.args.quorums.now (length c.args.scratch.now) (Ok c.in_ok-check.field-0) c.in_ok-check.ensures.answered

few : (c : In_ok-check) → c.args.n ≤ most_stations
few c = (passed_limits c.args.n c.args.k c.args.quorums.now (length c.args.scratch.now) (sym (none c))).stations.1

pub count_sets-requires : goal.count_sets-requires
count_sets-requires c = few c

pub returns : goal.returns
returns c =
    let at = (goal.at.returns c).In_ok-check in
    record {
      answered = counted_is c.args.n c.args.k c.args.quorums.now (length c.args.scratch.now) (none at) (few at) c.count_sets.result c.count_sets.ensures;
      few = few at;
      cleaned = c.in_ok-check.ensures.cleaned;
    }

rejected : (r : Rejected) → (said (Err r)).refusal ≡ rejection_of r
rejected (Refused r) = refl
rejected (NoCommonMember width even family) = refl
rejected (Nested width) = refl

pub returns-in_err-check-clause-answered : goal.returns-in_err-check-clause-answered
returns-in_err-check-clause-answered c =
    let p = err_from_is_err_and c.from_residual.result c.from_residual.ensures.1 in
    let r = c.in_err-check.field-0.0 in
    rw p.1
    (refused_is c.args.n c.args.k c.args.quorums.now (length c.args.scratch.now) p.0
    (p.2 ∙ sym (rejected r) ∙ said-refusal c.args.n c.args.k c.args.quorums.now (length c.args.scratch.now) (Err r) c.in_err-check.ensures.answered))
