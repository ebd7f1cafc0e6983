-- `families` lists exactly the families of a size, and the first that a test holds of comes first in dictionary order.
-- Assumes nothing.
use mathlib.Core.Bool.{Bool, true, false, or-false}
use mathlib.Core.List.{List, [], ◌∷◌, map}
use mathlib.Core.Logic.{⊎_elim, by_cases}
use mathlib.Core.Path.{◌≡◌, refl, sym, ap, ◌∙◌}
use Prim.Native.Nat.{ℕ, zero, suc, ◌+◌, ◌≤◌, ◌<◌}
use native.Mathlib.Decide.{ℕ_discrete}
use native.Mathlib.Nat.{le_refl}
use native.Mathlib.Omega.{arith}
use lib.ListN.{length}
use Rattle.lists.specs.Search.{any, first_of}
use Rattle.lists.proofs.Searches.{any_append, any-map, first_append_some, first_append_none, first_map}
use Rattle.lists.proofs.Tests.{clash, or-rest}
use Rattle.std.proofs.lemmas.Bool.{cases_Bool, or_right, or_left}
use Rattle.quorum.specs.Family.{Family, families}
use Rattle.quorum.specs.Inner.Before.{Before}

-- a family of later numbers is one of earlier ones
pub family_earlier : {b a : ℕ} (c : ℕ) {f : List ℕ} → c ≤ a → Family b a f → Family b c f
family_earlier c h Family.none = Family.none
family_earlier {a} c h (Family.and {p} le lt rest) = let lower : c ≤ p = omega arith in Family.and lower lt rest

-- ---- every family is listed

module _ (b : ℕ) where
  pub any-family : (P : List ℕ → Bool) (a m w : ℕ) → a + m ≡ b → (f : List ℕ) → Family b a f → length f ≡ w → P f ≡ true
      → any P (families a m w) ≡ true
  unfolding families
  any-family P a m zero ends f Family.none e t = or_left (P []) false t
  any-family P a m (suc w) ends f Family.none e t = absurd (omega arith)
  any-family P a m zero ends g (Family.and {p} {f} le lt rest) e t = absurd (omega arith)
  any-family P a zero (suc w) ends g (Family.and {p} {f} le lt rest) e t = absurd (omega arith)
  any-family P a (suc m) (suc w) ends g (Family.and {p} {f} le lt rest) e t =
      any_append P (map (λ g. a ∷ g) (families (suc a) m w)) (families (suc a) m (suc w))
      ∙ by_cases (ℕ_discrete a p)
      (λ (same : a ≡ p).
      or_left (any P (map (λ g. a ∷ g) (families (suc a) m w))) (any P (families (suc a) m (suc w)))
      (any-map P (λ g. a ∷ g) (families (suc a) m w)
      ∙ any-family (λ g. P (a ∷ g)) (suc a) m w (omega arith) f (rw same rest) (omega arith) (rw same t)))
      (λ (other : a ≡ p → ⊥).
      or_right (any P (map (λ g. a ∷ g) (families (suc a) m w))) (any P (families (suc a) m (suc w)))
      (any-family P (suc a) m (suc w) (omega arith) (p ∷ f) (Family.and (omega arith) lt rest) e t))

-- ---- the first that a test holds of

-- nothing comes before the empty list
before_some : {g f : List ℕ} → Before g f → 0 < length f
before_some (Before.here less) = omega arith
before_some (Before.there before) = omega arith

-- f is a family of size w that P holds of, and no other such comes before it in dictionary order
pub record First (P : List ℕ → Bool) (b a w : ℕ) (f : List ℕ) : Type 0 where
  pub family : Family b a f
  pub size : length f ≡ w
  pub holds : P f ≡ true
  pub none_before : (g : List ℕ) → Family b a g → length g ≡ w → P g ≡ true → Before g f → ⊥

module _ (b : ℕ) where
  with_head : (P : List ℕ → Bool) (a w : ℕ) (f : List ℕ) → a < b → First (λ g. P (a ∷ g)) b (suc a) w f → First P b a (suc w) (a ∷ f)
  with_head P a w f lt first =
      record {
        family = Family.and (le_refl a) lt first.family;
        size = ap suc first.size;
        holds = first.holds;
        none_before = none;
      }
    where
      none : (g : List ℕ) → Family b a g → length g ≡ suc w → P g ≡ true → Before g (a ∷ f) → ⊥
      none _ Family.none e t before = elim before [ ]
      none g (Family.and le l rest) e t (Before.here less) = omega arith
      none g (Family.and le l rest) e t (Before.there {g = h} before) = first.none_before h rest (omega arith) t before

  without_head : (P : List ℕ → Bool) (a m w : ℕ) (f : List ℕ) → suc a + m ≡ b → any (λ g. P (a ∷ g)) (families (suc a) m w) ≡ false
      → First P b (suc a) (suc w) f → First P b a (suc w) f
  without_head P a m w f ends nothing first =
      record {
        family = family_earlier a (omega arith) first.family;
        size = first.size;
        holds = first.holds;
        none_before = none;
      }
    where
      none : (g : List ℕ) → Family b a g → length g ≡ suc w → P g ≡ true → Before g f → ⊥
      none g (Family.and {p} {f = h} le l rest) e t before =
          by_cases (ℕ_discrete a p)
          (λ (same : a ≡ p). clash (any-family b (λ k. P (a ∷ k)) (suc a) m w ends h (rw same rest) (omega arith) (rw same t)) nothing)
          (λ (other : a ≡ p → ⊥). let higher : suc a ≤ p = omega arith in first.none_before (p ∷ h) (Family.and higher l rest) e t before)
      none g Family.none e t before = omega arith

  pub first_family_lem : (P : List ℕ → Bool) (a m w : ℕ) → a + m ≡ b → any P (families a m w) ≡ true → First P b a w (first_of P [] (families a m w))
  unfolding families
  first_family_lem P a m zero ends some =
      let holds : P [] ≡ true = sym (or-false (P [])) ∙ some in
      rw holds (record { family = Family.none; size = refl; holds = holds; none_before = λ g fam e t before. absurd (omega (arith, before_some before)) })
  first_family_lem P a zero (suc w) ends some = absurd (clash some refl)
  first_family_lem P a (suc m) (suc w) ends some =
      ⊎_elim
      (λ (found : any P (map (λ g. a ∷ g) (families (suc a) m w)) ≡ true).
      let inner = sym (any-map P (λ g. a ∷ g) (families (suc a) m w)) ∙ found in
      rw (
        first_append_some P [] (map (λ g. a ∷ g) (families (suc a) m w)) (families (suc a) m (suc w)) found,
        first_map P (λ g. a ∷ g) [] [] (families (suc a) m w) inner,
      )
      (with_head P a w (first_of (λ g. P (a ∷ g)) [] (families (suc a) m w)) (omega arith)
      (first_family_lem (λ g. P (a ∷ g)) (suc a) m w (omega arith) inner)))
      (λ (nothing : any P (map (λ g. a ∷ g) (families (suc a) m w)) ≡ false).
      let later = or-rest (any P (map (λ g. a ∷ g) (families (suc a) m w))) (any P (families (suc a) m (suc w))) nothing
      (sym (any_append P (map (λ g. a ∷ g) (families (suc a) m w)) (families (suc a) m (suc w))) ∙ some) in
      rw (first_append_none P [] (map (λ g. a ∷ g) (families (suc a) m w)) (families (suc a) m (suc w)) nothing)
      (without_head P a m w (first_of P [] (families (suc a) m (suc w))) (omega arith)
      (sym (any-map P (λ g. a ∷ g) (families (suc a) m w)) ∙ nothing)
      (first_family_lem P (suc a) m (suc w) (omega arith) later)))
      (cases_Bool (any P (map (λ g. a ∷ g) (families (suc a) m w))))
