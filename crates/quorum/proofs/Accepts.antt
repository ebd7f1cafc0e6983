-- The check accepts exactly the k-arbiters of RR-2523 (Definition 4.1) within the limits, where scratch is enough.
-- Assumes nothing.
use mathlib.Core.Bool.{true, false}
use mathlib.Core.List.{List}
use mathlib.Core.Logic.{◌↔◌, by_cases}
use mathlib.Core.Path.{◌≡◌, sym, ◌∙◌}
use Prim.Native.Nat.{ℕ, ◌≤◌}
use native.Mathlib.Decide.{ℕ_discrete, dec_le}
use native.Mathlib.Omega.{arith}
use Rattle.std.proofs.lemmas.Bool.{false_from_ne_true}
use Rattle.quorum.specs.Accepted.{Accepted}
use Rattle.quorum.specs.Arbiter.{Arbiter}
use Rattle.quorum.specs.Limits.{broken_limit}
use Rattle.quorum.specs.Nested.{nested}
use Rattle.quorum.specs.Refusal.{refusal}
use Rattle.quorum.specs.Scratch.{scratch_bytes}
use Rattle.quorum.specs.Width.{lacks_common}
use Rattle.quorum.proofs.CommonMember.{common-member}
use Rattle.quorum.proofs.Lacking.{lacks_iff}
use Rattle.quorum.proofs.LimitLaws.{Limits, limits_kept}
use Rattle.quorum.proofs.Minimality.{minimal, minimal_nested}
use Rattle.quorum.proofs.Refusals.{refusal_limit, refusal_five, refusal_six, refusal_later}

-- ---- accepted tables are the k-arbiters within the limits

module _ (n k : ℕ) (table : List ℕ) where
  pub accepted_arbiter : Accepted n k table → Arbiter n k table
  accepted_arbiter a =
      record {
        intersection = λ f numbers size. common-member n k table a.limits a.common f numbers (omega arith);
        minimality = minimal table a.not-nested;
      }

  pub arbiter_accepted : broken_limit n k table ≡ 0 → Arbiter n k table → Accepted n k table
  arbiter_accepted kept arbiter =
      record {
        limits = kept;
        common = false_from_ne_true (lacks_common n k table) (λ t.
            let w = (lacks_iff n k table kept).0 t in w.none (arbiter.intersection w.list w.numbers w.size));
        not-nested = minimal_nested table arbiter.minimality;
      }

-- ---- the check

module _ (n k : ℕ) (table : List ℕ) (room : ℕ) where
  -- the tests in turn: a test that fails has its own refusal, which is not 0
  pub passed : refusal n k table room ≡ 0 → Accepted n k table × (scratch_bytes ≤ room)
  passed e = (record { limits = kept; common = common; not-nested = not-nested }, enough)
    where
      kept : broken_limit n k table ≡ 0
      kept =
          by_cases (ℕ_discrete (broken_limit n k table) 0) (λ z. z)
          (λ (broken : broken_limit n k table ≡ 0 → ⊥). sym (refusal_limit n k table room broken) ∙ e)

      enough : scratch_bytes ≤ room
      enough =
          by_cases (dec_le scratch_bytes room) (λ h. h)
          (λ (short : ¬ (scratch_bytes ≤ room)). absurd (omega (arith, refusal_five n k table room kept (omega arith))))

      common : lacks_common n k table ≡ false
      common = false_from_ne_true (lacks_common n k table) (λ t. omega (arith, refusal_six n k table room kept enough t))

      not-nested : nested table ≡ false
      not-nested =
          false_from_ne_true (nested table) (λ (t : nested table ≡ true).
          let seven : refusal n k table room ≡ 7 = refusal_later n k table room kept enough common ∙ rw t in
          omega arith)

  -- so the limits are kept
  pub passed_limits : refusal n k table room ≡ 0 → Limits n k table
  passed_limits e = limits_kept n k table (passed e).0.limits

  pub passes : Accepted n k table → scratch_bytes ≤ room → refusal n k table room ≡ 0
  passes a enough = refusal_later n k table room a.limits enough a.common ∙ rw a.not-nested

  -- the check refuses nothing exactly where the table keeps the limits, scratch is enough, and the table is a k-arbiter of RR-2523
  pub accepts_arbiters : (refusal n k table room ≡ 0) ↔ ((broken_limit n k table ≡ 0) × (scratch_bytes ≤ room) × Arbiter n k table)
  accepts_arbiters = (to, from)
    where
      to : refusal n k table room ≡ 0 → (broken_limit n k table ≡ 0) × (scratch_bytes ≤ room) × Arbiter n k table
      to e = let (a, enough) = passed e in (a.limits, enough, accepted_arbiter n k table a)

      from : (broken_limit n k table ≡ 0) × (scratch_bytes ≤ room) × Arbiter n k table → refusal n k table room ≡ 0
      from held = passes (arbiter_accepted n k table held.0 held.2) held.1
