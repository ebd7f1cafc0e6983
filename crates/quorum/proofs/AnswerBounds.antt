-- How large the numbers of an answer can be, on every table.
-- Assumes nothing.
use mathlib.Core.Bool.{Bool, true, false, cond, ◌&&◌}
use mathlib.Core.List.{List, []}
use mathlib.Core.Logic.{⊎_elim, by_cases}
use mathlib.Core.Path.{◌≡◌}
use Prim.Native.Nat.{ℕ, ◌≤◌, ◌<◌, zero-le}
use native.Mathlib.Decide.{ℕ_discrete}
use native.Mathlib.Omega.{arith}
use lib.Dec.{ltb}
use lib.ListN.{length}
use borrow.Author.Tests.{ltb-true, ltb-false, ne_eqb}
use Rattle.lists.proofs.Tests.{capped}
use Rattle.std.proofs.lemmas.Bool.{cases_Bool}
use Rattle.quorum.specs.Answer.{Answer, answer_to, answer}
use Rattle.quorum.specs.Even.{equal_shares, equal_sizes, even}
use Rattle.quorum.specs.Family.{Family}
use Rattle.quorum.specs.Limits.{most_stations, broken_limit}
use Rattle.quorum.specs.Nested.{nested}
use Rattle.quorum.specs.Scratch.{scratch_bytes}
use Rattle.quorum.specs.Width.{width, lacks_common}
use Rattle.quorum.proofs.Lacking.{first_family_is}
use Rattle.quorum.proofs.LimitLaws.{limits_kept, limit_most}
use Rattle.quorum.proofs.Refusals.{refusal_limit, refusal_five, refusal_six, refusal_later}
use Rattle.quorum.proofs.Widths.{width-le-n}

-- the refusal, the width and even; the family, which is one of the table's quorums and has no more numbers than a table may have stations
pub record Bounds (table : List ℕ) (a : Answer) : Type 0 where
  pub refusal : a.refusal ≤ 7
  pub width : a.width ≤ most_stations
  pub even : a.even ≤ 1
  pub family : Family (length table) 0 a.family
  pub few : length a.family ≤ most_stations

module _ (n : ℕ) (table : List ℕ) where
  -- an answer without a family
  no_family : (r w e : ℕ) → r ≤ 7 → w ≤ most_stations → e ≤ 1 → Bounds table (record { refusal = r; width = w; even = e; family = [] })
  no_family r w e p q s = record { refusal = p; width = q; even = s; family = Family.none; few = zero-le }

  even-one : even n table ≤ 1
  unfolding even
  even-one = capped 1 (equal_shares n table && equal_sizes table) (omega arith) (omega arith)

  -- "On 1 to 5: width 0, even 0, no family."
  early : (r : ℕ) → 0 < r → r ≤ 5 → Bounds table (answer_to n table r)
  unfolding answer_to
  early r some few =
      rw (ne_eqb r 0 (λ z. omega arith), ne_eqb r 6 (λ z. omega arith), ne_eqb r 7 (λ z. omega arith)) (no_family r 0 0 (omega arith) zero-le zero-le)

  module _ (k : ℕ) (kept : broken_limit n k table ≡ 0) where
    width_twelve : width n table ≤ most_stations
    width_twelve = let s = (limits_kept n k table kept).stations in omega (arith, width-le-n n table s.0, s.1)

    on_six : lacks_common n k table ≡ true → Bounds table (answer_to n table 6)
    unfolding answer_to
    on_six lacks =
        let first = first_family_is n k table kept lacks in
        record { refusal = omega arith; width = width_twelve; even = even-one; family = first.family; few = omega (arith, first.size, width_twelve) }

    later : (b : Bool) → Bounds table (answer_to n table (cond b 7 0))
    unfolding answer_to
    later true = no_family 7 (width n table) 0 (omega arith) width_twelve zero-le
    later false = no_family 0 (width n table) (even n table) (omega arith) width_twelve even-one

module _ (n k : ℕ) (table : List ℕ) (room : ℕ) where
  within : broken_limit n k table ≡ 0 → Bounds table (answer n k table room)
  unfolding answer
  within kept =
      ⊎_elim
      (λ (short : ltb room scratch_bytes ≡ true). rw (refusal_five n k table room kept (ltb-true room scratch_bytes short)) (early n table 5 (omega arith) (omega arith)))
      (λ (long : ltb room scratch_bytes ≡ false).
      let enough : scratch_bytes ≤ room = ltb-false room scratch_bytes long in
      ⊎_elim
      (λ (lacks : lacks_common n k table ≡ true). rw (refusal_six n k table room kept enough lacks) (on_six n table k kept lacks))
      (λ (has : lacks_common n k table ≡ false). rw (refusal_later n k table room kept enough has) (later n table k kept (nested table)))
      (cases_Bool (lacks_common n k table)))
      (cases_Bool (ltb room scratch_bytes))

  pub answer_bounds : Bounds table (answer n k table room)
  unfolding answer
  answer_bounds =
      by_cases (ℕ_discrete (broken_limit n k table) 0) within
      (λ (broken : broken_limit n k table ≡ 0 → ⊥).
      rw (refusal_limit n k table room broken) (early n table (broken_limit n k table) (omega arith) (omega (arith, limit_most n k table))))
