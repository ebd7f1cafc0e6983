-- Quorums in any order and with repeats have the common part of a family that is no larger.
-- Assumes nothing.
use mathlib.Core.List.{List, [], ◌∷◌}
use mathlib.Core.Logic.{by_cases}
use mathlib.Core.Path.{◌≡◌, refl, sym, ap, ◌∙◌}
use Prim.Native.Nat.{ℕ, suc, ◌-◌, ◌≤◌, ◌<◌, zero-le}
use native.Mathlib.Decide.{ℕ_discrete, dec_lt}
use native.Mathlib.Nat.{le_refl}
use native.Mathlib.Omega.{arith}
use lib.Bits.{bit_and}
use lib.ListN.{length}
use Rattle.stations.proofs.Members.{and_swap, and_again}
use Rattle.quorum.specs.Family.{quorum, common_within, Family, Numbers}

-- the numbers of a family are numbers
pub family-numbers : {m a : ℕ} {f : List ℕ} → Family m a f → Numbers m f
family-numbers Family.none = Numbers.none
family-numbers (Family.and le lt rest) = Numbers.and lt (family-numbers rest)

-- a family of numbers below m has at most m
pub family-length : {m a : ℕ} {f : List ℕ} → Family m a f → length f ≤ m - a
family-length Family.none = zero-le
family-length (Family.and {a} {p} le lt rest) = omega (arith, family-length rest)

module _ (table : List ℕ) where
  -- a family that stands for the quorum p and the list f
  record Inserted (m a p : ℕ) (f : List ℕ) : Type 0 where
    list : List ℕ
    family : Family m a list
    short : length list ≤ suc (length f)
    same : (s : ℕ) → common_within table s list ≡ common_within table (bit_and s (quorum table p)) f

  inserted : {m a : ℕ} (p : ℕ) {f : List ℕ} → p < m → a ≤ p → Family m a f → Inserted m a p f
  unfolding common_within
  inserted {a} p lt le Family.none =
      record { list = p ∷ []; family = Family.and le lt Family.none; short = le_refl 1; same = λ s. refl }
  inserted {m} {a} p lt le (Family.and {p = q} {f} le' lt' rest) =
      by_cases (ℕ_discrete p q)
      (λ (e : p ≡ q). record {
        list = q ∷ f;
        family = Family.and le' lt' rest;
        short = omega arith;
        same = λ s. rw e (ap (λ (x : ℕ). common_within table x f) (sym (and_again s (quorum table q))));
      })
      (λ (d : p ≡ q → ⊥).
      by_cases (dec_lt p q)
      (λ (less : p < q). record {
        list = p ∷ q ∷ f;
        family = Family.and le lt (Family.and less lt' rest);
        short = le_refl _;
        same = λ s. refl;
      })
      (λ (more : ¬ (p < q)).
      let tail = inserted p lt (after more d) rest in
      record {
        list = q ∷ tail.list;
        family = Family.and le' lt' tail.family;
        short = omega (arith, tail.short);
        same = λ s. tail.same (bit_and s (quorum table q)) ∙ ap (λ (x : ℕ). common_within table x f) (and_swap s (quorum table q) (quorum table p));
      }))
    where
      after : ¬ (p < q) → (p ≡ q → ⊥) → suc q ≤ p
      after h d = omega arith

  -- a family that stands for the list f
  pub record Sorted (m : ℕ) (f : List ℕ) : Type 0 where
    pub list : List ℕ
    pub family : Family m 0 list
    pub short : length list ≤ length f
    pub same : (s : ℕ) → common_within table s list ≡ common_within table s f

  pub sorted : {m : ℕ} {f : List ℕ} → Numbers m f → Sorted m f
  unfolding common_within
  sorted Numbers.none = record { list = []; family = Family.none; short = le_refl 0; same = λ s. refl }
  sorted (Numbers.and {p} {f} lt rest) =
      let tail = sorted rest in
      let whole = inserted p lt zero-le tail.family in
      record {
        list = whole.list;
        family = whole.family;
        short = omega (arith, whole.short, tail.short);
        same = λ s. whole.same s ∙ tail.same (bit_and s (quorum table p));
      }
