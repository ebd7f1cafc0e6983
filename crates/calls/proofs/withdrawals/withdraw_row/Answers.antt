-- `calls::withdrawals::withdraw_row` meets its contract. First RELEASE goes up, then WITHDRAW, each where there is room.
-- Assumes nothing.
use mathlib.Core.Bool.{Bool}
use mathlib.Core.List.{[], ◌∷◌}
use mathlib.Core.Path.{◌≡◌, sym, ap, ◌∙◌}
use native.Mathlib.Omega.{arith}
use Rattle.std.proofs.lemmas.Result.{on_ok_weaker}
use Rattle.lists.specs.Broken.{◌when◌, first_broken}
use Rattle.plain.specs.Lanes.{no_place}
use Rattle.plain.specs.Withdraw.{below}
use Rattle.calls.proofs.SendingMessage.{had_room}
use Rattle.calls.proofs.WithdrawingRow.{below_is, below-small, ReleasedBelow, withdraw_passes, withdraw-goes}
use Rattle.calls.proofs.withdrawals.withdraw_row.Goals as goal
use Rattle.calls.proofs.withdrawals.withdraw_row.Goals.{After-common-granted, After-put_to}

granted : (c : After-common-granted) → c.common-granted.result ≡ below c.args.set c.args.member
granted c = c.common-granted.ensures ∙ below_is c.args.set c.args.member c.everyone.result (omega (arith, c.requires)) c.everyone.ensures

pub release_row-requires : goal.release_row-requires
release_row-requires c =
    (c.requires.0, rw (granted (goal.at.release_row-requires c).After-common-granted) (below-small c.args.n c.args.set c.args.member c.requires.1))

released : (c : After-put_to) → c.common-granted.result ≡ below c.args.set c.args.member → ReleasedBelow c.args.n c.args.w.now c.args.set c.args.member c.release_row.new.w
released c is =
    record { member = c.requires.2; room = rw is at (had_room _ c.in-Ok.ensures.refusal); lanes = rw is at c.in-Ok.ensures.row }

pub returns-in-Ok-clause-refusal : goal.returns-in-Ok-clause-refusal
returns-in-Ok-clause-refusal c =
    c.put_to.ensures.refusal c.args.n c.requires.2
    ∙ ap (λ (full : Bool). first_broken (no_place when full ∷ [])) (sym (withdraw_passes (released (goal.at.returns-in-Ok-clause-refusal c).After-put_to (granted (goal.at.returns-in-Ok-clause-refusal c).After-common-granted))))

pub returns-in-Ok-clause-row : goal.returns-in-Ok-clause-row
returns-in-Ok-clause-row c =
    on_ok_weaker c.put_to.result (λ put. put c.args.n c.requires.2 ∙ withdraw-goes (released (goal.at.returns-in-Ok-clause-row c).After-put_to (granted (goal.at.returns-in-Ok-clause-row c).After-common-granted))) c.put_to.ensures.row
