-- Each refusal of the check, from the tests that lead to it: what is tested earlier is answered first.
-- Assumes nothing.
use mathlib.Core.Bool.{true, false, cond}
use mathlib.Core.List.{List}
use mathlib.Core.Logic.{⊎_elim}
use mathlib.Core.Path.{◌≡◌, sym, ap, ◌∙◌}
use Prim.Native.Nat.{ℕ, ◌≤◌, ◌<◌}
use lib.Dec.{eqb}
use Rattle.std.specs.Prelude.{Result}
use borrow.Author.Tests.{eqb-true, lt-ltb, le-ltb}
use Rattle.lists.specs.Broken.{first_broken}
use Rattle.lists.proofs.Broken.{broken-at, first_earlier, first_later}
use Rattle.std.proofs.lemmas.Bool.{cases_Bool}
use Rattle.quorum.specs.Answer.{Answer, answer_to, answer, said}
use Rattle.quorum.specs.Limits.{limit_tests, broken_limit}
use Rattle.quorum.specs.Nested.{nested}
use Rattle.quorum.specs.Refusal.{later_tests, refusal}
use Rattle.quorum.specs.Scratch.{scratch_bytes}
use Rattle.quorum.specs.Width.{lacks_common}
use Rattle.quorum.specs.declared.Accepted.{Accepted}
use Rattle.quorum.specs.declared.Rejected.{Rejected}
use Rattle.quorum.proofs.LimitLaws.{tests_kept}

module _ (n k : ℕ) (table : List ℕ) (room : ℕ) where
  -- a broken limit is answered before all else
  pub refusal_limit : (broken_limit n k table ≡ 0 → ⊥) → refusal n k table room ≡ broken_limit n k table
  unfolding refusal broken_limit
  refusal_limit broken = first_earlier (limit_tests n k table) (later_tests n k table room) broken

  module _ (kept : broken_limit n k table ≡ 0) where
    later : refusal n k table room ≡ first_broken (later_tests n k table room)
    unfolding refusal
    later = first_later (limit_tests n k table) (later_tests n k table room) (tests_kept n k table kept)

    -- short scratch before the table's own faults
    pub refusal_five : room < scratch_bytes → refusal n k table room ≡ 5
    refusal_five short = later ∙ broken-at 0 (later_tests n k table room) (tt, lt-ltb room scratch_bytes short)

    -- the lack of a common member, nested or not
    pub refusal_six : scratch_bytes ≤ room → lacks_common n k table ≡ true → refusal n k table room ≡ 6
    refusal_six enough lacks = later ∙ broken-at 1 (later_tests n k table room) ((le-ltb room scratch_bytes enough, tt), lacks)

    -- nested only where no common member is lacking
    pub refusal_later : scratch_bytes ≤ room → lacks_common n k table ≡ false → refusal n k table room ≡ cond (nested table) 7 0
    refusal_later enough has = later ∙ rw (le-ltb room scratch_bytes enough, has)

-- the answer says the refusal that the tests lead to
pub answer-refusal : (n : ℕ) (table : List ℕ) (r : ℕ) → (answer_to n table r).refusal ≡ r
unfolding answer_to
answer-refusal n table r =
    ⊎_elim (λ (e : eqb r 0 ≡ true). rw e (sym (eqb-true r 0 e)))
    (λ (d : eqb r 0 ≡ false).
    ⊎_elim (λ (e : eqb r 6 ≡ true). rw (d, e) (sym (eqb-true r 6 e)))
    (λ (d' : eqb r 6 ≡ false).
    ⊎_elim (λ (e : eqb r 7 ≡ true). rw (d, d', e) (sym (eqb-true r 7 e))) (λ (d'' : eqb r 7 ≡ false). rw (d, d', d'')) (cases_Bool (eqb r 7)))
    (cases_Bool (eqb r 6)))
    (cases_Bool (eqb r 0))

-- and so does the code's, where it says that answer
pub said-refusal : (n k : ℕ) (table : List ℕ) (room : ℕ) (checked : Result Accepted Rejected) → said checked ≡ answer n k table room → (said checked).refusal ≡ refusal n k table room
unfolding answer
said-refusal n k table room checked e = ap (λ (a : Answer). a.refusal) e ∙ answer-refusal n table (refusal n k table room)
