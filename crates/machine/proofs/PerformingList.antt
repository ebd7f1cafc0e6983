-- A list of calls as a whole: refused, or performed.
-- Assumes nothing.
use mathlib.Core.Bool.{true, false}
use mathlib.Core.List.{List, ◌++◌}
use mathlib.Core.Path.{◌≡◌, refl, ◌∙◌}
use Prim.Native.Nat.{ℕ, ◌/◌, ◌*◌, ◌≤◌, ◌<◌}
use native.Mathlib.Omega.{arith}
use lib.ListN.{length, drop}
use borrow.Author.Tests.{ne_eqb, lt-ltb, le-ltb, ltb-false, not-false}
use Rattle.lists.proofs.Broken.{passes_kept}
use Rattle.refusals.specs.Numbers.{refusal_of}
use Rattle.plain.specs.Run.{run, after}
use Rattle.plain.specs.State.{State}
use Rattle.records.specs.View.{view}
use Rattle.machine.specs.Performing.{answer_words, well_formed, calls_of, words_of, list_tests, list_refusal, performance, performed_of, answers_in}
use Rattle.machine.specs.declared.Performed.{Performed}
use Rattle.machine.proofs.PerformingCalls.{calls_length}

module _ (calls : List ℕ) (room : ℕ) where
  pub refusal_15 : well_formed calls ≡ false → list_refusal calls room ≡ 15
  unfolding list_refusal
  refusal_15 e = rw e

  pub refusal_16 : well_formed calls ≡ true → room / answer_words < length calls / 4 → list_refusal calls room ≡ 16
  unfolding list_refusal
  refusal_16 e h = rw (e, lt-ltb room (answer_words * length (calls_of calls)) (omega (arith, calls_length calls e)))

  pub enough : well_formed calls ≡ true → length calls / 4 ≤ room / answer_words → answer_words * length (calls_of calls) ≤ room
  enough e h = omega (arith, calls_length calls e)

  pub refusal-none : well_formed calls ≡ true → length calls / 4 ≤ room / answer_words → list_refusal calls room ≡ 0
  unfolding list_refusal
  refusal-none e h = rw (e, le-ltb room (answer_words * length (calls_of calls)) (enough e h))

  -- what a list has passed that is not refused
  pub passed_list : list_refusal calls room ≡ 0 → (well_formed calls ≡ true) × (answer_words * length (calls_of calls) ≤ room)
  unfolding list_refusal
  passed_list e =
      let (a, (b, end)) = passes_kept (list_tests calls room) refl e in
      (not-false (well_formed calls) a, ltb-false room (answer_words * length (calls_of calls)) b)

-- a list that is refused changes nothing
module _ (st : State) (calls lent : List ℕ) (p : Performed) (same : view p.«record» ≡ st) where
  pub refused-list : (r : ℕ) → list_refusal calls (length lent) ≡ r → 0 < r → refusal_of p.outcome ≡ r → (performed_of p ≡ performance st calls (length lent)) × (lent ≡ answers_in st calls lent)
  unfolding performed_of performance answers_in
  refused-list r e h z = (rw (z, same, e, ne_eqb r 0 (λ x. omega arith)), rw (e, ne_eqb r 0 (λ x. omega arith)))

-- and one that is not
module _ (st : State) (calls lent out : List ℕ) (p : Performed) (none : list_refusal calls (length lent) ≡ 0) where
  pub done-list : refusal_of p.outcome ≡ 0 → view p.«record» ≡ after st (calls_of calls) → out ≡ words_of (run st (calls_of calls)) ++ drop (answer_words * length (calls_of calls)) lent
      → (performed_of p ≡ performance st calls (length lent)) × (out ≡ answers_in st calls lent)
  unfolding performed_of performance answers_in
  done-list z s o = (rw (z, s, none), o ∙ rw none)
