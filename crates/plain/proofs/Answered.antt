-- The answer to a call: refused by the first of its tests that is broken, or done.
-- Assumes nothing.
use mathlib.Core.Bool.{true}
use mathlib.Core.List.{List}
use mathlib.Core.Path.{◌≡◌}
use Prim.Native.Nat.{ℕ}
use lib.Dec.{ltb}
use Rattle.lists.specs.Broken.{Test, first_broken}
use Rattle.lists.proofs.Broken.{Kept, number_at, BrokenAt, done-or_as, tests_done, tests_refuse}
use Rattle.plain.specs.Answer.{Answer, Returned, refused, done, answered}
use Rattle.plain.specs.State.{State}

module _ (st : State) (x : Returned) (next : State) where
  -- an answer says that the call was done, or that it was refused and all is as it was
  pub answered_as : (P : Answer → Type 0) (r : ℕ) → (r ≡ 0 → P (done x next)) → P (refused st r) → P (answered st r x next)
  unfolding answered
  answered_as P r is_done_lem not_done = done-or_as (done x next) (refused st) P r is_done_lem not_done

  -- an answer that says no refusal: there was none
  pub answered_passed : (r : ℕ) → (answered st r x next).refusal ≡ 0 → r ≡ 0
  answered_passed r = answered_as (λ a. a.refusal ≡ 0 → r ≡ 0) r (λ z y. z) (λ z. z)

  -- no test is broken
  pub answered-done : (tests : List Test) → Kept tests → answered st (first_broken tests) x next ≡ done x next
  unfolding answered
  answered-done tests k = tests_done (done x next) (refused st) tests k

  -- the test at place i is, and none before it
  pub answered-refused : (i : ℕ) (tests : List Test) → BrokenAt i tests → ltb 0 (number_at i tests) ≡ true → answered st (first_broken tests) x next ≡ refused st (number_at i tests)
  unfolding answered
  answered-refused i tests b n = tests_refuse (done x next) (refused st) i tests b n
