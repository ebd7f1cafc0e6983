-- What the function `check` itself answers: 0 exactly on the k-arbiters of RR-2523 within the limits, where scratch is enough.
-- Assumes nothing.
use mathlib.Core.List.{List}
use mathlib.Core.Logic.{◌↔◌}
use mathlib.Core.Path.{◌≡◌, sym, ◌∙◌}
use Prim.Native.Nat.{ℕ, ◌≤◌}
use lib.ListN.{length}
use contract.Lifetimes.{Lfts}
use denote.Ref.{Bor, MutBor}
use Rattle.std.specs.Prelude.{Result}
use Rattle.quorum.specs.Answer.{said}
use Rattle.quorum.specs.Arbiter.{Arbiter}
use Rattle.quorum.specs.Limits.{broken_limit}
use Rattle.quorum.specs.Scratch.{scratch_bytes}
use Rattle.quorum.specs.declared.Accepted.{Accepted}
use Rattle.quorum.specs.declared.Rejected.{Rejected}
use Rattle.quorum.proofs.Accepts.{accepts_arbiters}
use Rattle.quorum.proofs.Refusals.{said-refusal}
use Rattle.quorum.proofs.check.Reads as check

-- A call of `check`, with any numbers and slices, is known by what the checker has learnt of it: its contract, and nothing else. `left` is the
-- scratch afterwards.
pub check_accepts : (n k : ℕ) (quorums : Bor (List ℕ)) (scratch left : MutBor (List ℕ)) (checked : Result Accepted Rejected) (κs : Lfts 2)
    → check.Learnt κs (n, (k, (quorums, (scratch, tt)))) checked (n, (k, (quorums, (left, tt))))
    → ((said checked).refusal ≡ 0) ↔ ((broken_limit n k quorums.now ≡ 0) × (scratch_bytes ≤ length scratch.now) × Arbiter n k quorums.now)
check_accepts n k quorums scratch left checked κs learnt =
    let is = said-refusal n k quorums.now (length scratch.now) checked learnt.0 in
    let (to, from) = accepts_arbiters n k quorums.now (length scratch.now) in
    ((λ e. to (sym is ∙ e)), (λ h. is ∙ from h))
