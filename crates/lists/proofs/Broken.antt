-- Tests in their order: all are kept, or the first that is broken answers.
-- Assumes nothing.
use mathlib.Core.Bool.{Bool, true, false, not, ◌||◌, or-false}
use mathlib.Core.List.{List, [], ◌∷◌, ◌++◌}
use mathlib.Core.Logic.{by_cases, ⊎_elim}
use mathlib.Core.Path.{◌≡◌, refl, sym, ◌∙◌}
use Prim.Native.Nat.{ℕ, zero, suc, ◌≤◌}
use native.Mathlib.Decide.{ℕ_discrete}
use native.Mathlib.Omega.{arith}
use lib.Dec.{leb, ltb}
use lib.ListN.{get_or, take, drop}
use borrow.Author.Tests.{leb-true, ltb-true, eq-eqb, ne_eqb}
use Rattle.lists.specs.Broken.{Test, ◌when◌, first_broken, done_or}
use Rattle.lists.specs.Search.{all}
use Rattle.lists.proofs.Tests.{and_left, and_right, otherwise, either}
use Rattle.std.proofs.lemmas.Bool.{cases_Bool}

-- no test of the list is broken
abbrev pub Kept : List Test → Type 0
Kept [] = Unit {0}
Kept (t ∷ tests) = (t.broken ≡ false) × Kept tests

-- ---- none is broken

pub kept_passes : (tests : List Test) → Kept tests → first_broken tests ≡ 0
kept_passes [] k = refl
kept_passes (t ∷ tests) (e, k) = rw e (kept_passes tests k)

-- those before place i, and those from it on
pub kept_both : (i : ℕ) (tests : List Test) → Kept (take i tests) → Kept (drop i tests) → Kept tests
kept_both zero tests a b = b
kept_both (suc i) [] a b = tt
kept_both (suc i) (t ∷ tests) (e, a) b = (e, kept_both i tests a b)

-- no test answers 0
abbrev pub numbered : List Test → Type 0
numbered tests = all (λ t. ltb 0 t.number) tests ≡ true

pub passes_kept : (tests : List Test) → numbered tests → first_broken tests ≡ 0 → Kept tests
passes_kept [] n e = tt
passes_kept (t ∷ tests) n e =
    let (this, rest) = otherwise t.broken t.number (first_broken tests) (λ z. omega (arith, ltb-true 0 t.number (and_left (ltb 0 t.number) _ n))) e in
    (this, passes_kept tests (and_right (ltb 0 t.number) _ n) rest)

-- ---- the one at place i is, and none before

abbrev test_at : ℕ → List Test → Test
test_at i tests = get_or tests i (0 when false)

abbrev pub number_at : ℕ → List Test → ℕ
number_at i tests = (test_at i tests).number

abbrev pub BrokenAt : ℕ → List Test → Type 0
BrokenAt i tests = Kept (take i tests) × ((test_at i tests).broken ≡ true)

pub broken-at : (i : ℕ) (tests : List Test) → BrokenAt i tests → first_broken tests ≡ number_at i tests
broken-at zero [] b = refl
broken-at (suc i) [] b = refl
broken-at zero (t ∷ tests) (k, b) = rw b
broken-at (suc i) (t ∷ tests) ((e, k), b) = rw e (broken-at i tests (k, b))

-- ---- how large the number can be

pub broken_most : (most : ℕ) (tests : List Test) → all (λ t. leb t.number most) tests ≡ true → first_broken tests ≤ most
broken_most most [] e = omega arith
broken_most most (t ∷ tests) e =
    either (λ r. r ≤ most) t.broken (leb-true t.number most (and_left (leb t.number most) _ e)) (broken_most most tests (and_right (leb t.number most) _ e))

-- ---- which numbers can answer

-- The last test is kept where all before it are. Then the number that answers is 0 or that of an earlier test that is broken: f holds of it,
-- if it holds of 0 and of the numbers of those.
pub number_earlier : (f : ℕ → Bool) (tests : List Test) (last : Test) → f 0 ≡ true → all (λ t. f t.number || not t.broken) tests ≡ true
    → (Kept tests → last.broken ≡ false) → f (first_broken (tests ++ (last ∷ []))) ≡ true
number_earlier f [] last z e room = rw (room tt) z
number_earlier f (t ∷ tests) last z e room =
    ⊎_elim
    (λ (b : t.broken ≡ true). rw b (sym (or-false (f t.number)) ∙ (rw b at (and_left (f t.number || not t.broken) _ e))))
    (λ (b : t.broken ≡ false). rw b (number_earlier f tests last z (and_right (f t.number || not t.broken) _ e) (λ k. room (b, k))))
    (cases_Bool t.broken)

-- ---- two lists of tests, one after the other

pub first_earlier : (a b : List Test) → (first_broken a ≡ 0 → ⊥) → first_broken (a ++ b) ≡ first_broken a
first_earlier [] b d = absurd (d refl)
first_earlier (t ∷ a) b d =
    ⊎_elim (λ (e : t.broken ≡ true). rw e) (λ (e : t.broken ≡ false). rw e (first_earlier a b (rw e at d))) (cases_Bool t.broken)

pub first_later : (a b : List Test) → Kept a → first_broken (a ++ b) ≡ first_broken b
first_later [] b k = refl
first_later (t ∷ a) b (e, k) = rw e (first_later a b k)

-- ---- what is answered

module _ {A : Type 0} (done : A) (refused : ℕ → A) where
  pub done-or_as : (P : A → Type 0) (r : ℕ) → (r ≡ 0 → P done) → P (refused r) → P (done_or done refused r)
  done-or_as P r is_done_lem not_done =
      by_cases (ℕ_discrete r 0) (λ (z : r ≡ 0). rw (eq-eqb r 0 z) (is_done_lem z)) (λ (d : r ≡ 0 → ⊥). rw (ne_eqb r 0 d) not_done)

  pub tests_done : (tests : List Test) → Kept tests → done_or done refused (first_broken tests) ≡ done
  tests_done tests k = rw (kept_passes tests k)

  -- a number that is not 0
  pub tests_refuse : (i : ℕ) (tests : List Test) → BrokenAt i tests → ltb 0 (number_at i tests) ≡ true → done_or done refused (first_broken tests) ≡ refused (number_at i tests)
  tests_refuse i tests b n = rw (broken-at i tests b, ne_eqb (number_at i tests) 0 (λ z. omega (arith, ltb-true 0 (number_at i tests) n)))
