-- A function changed at one place: what it is there, and that it is as before elsewhere.
-- Assumes nothing.
use mathlib.Core.Logic.{by_cases}
use mathlib.Core.Path.{◌≡◌, refl, sym, fun_ext}
use Prim.Native.Nat.{ℕ}
use native.Mathlib.Decide.{ℕ_discrete}
use borrow.Author.Tests.{eq-eqb, ne_eqb}
use Rattle.lists.specs.At.{at, at2}

module _ {A : Type 0} where
  pub at_same : (f : ℕ → A) (a : ℕ) (x : A) → at f a x a ≡ x
  unfolding at
  at_same f a x = rw (eq-eqb a a refl)

  pub at_other : (f : ℕ → A) (a : ℕ) (x : A) (i : ℕ) → (i ≡ a → ⊥) → at f a x i ≡ f i
  unfolding at
  at_other f a x i d = rw (ne_eqb i a d)

  -- x is what f has at a
  pub at_kept : (f : ℕ → A) (a : ℕ) (x : A) → f a ≡ x → at f a x ≡ f
  at_kept f a x e = fun_ext (λ i. by_cases (ℕ_discrete i a) (λ (z : i ≡ a). rw (z, at_same f a x) (sym e)) (λ (d : i ≡ a → ⊥). at_other f a x i d))

  -- what holds of x, and of f at i
  pub at_all : (P : A → Type 0) (f : ℕ → A) (a : ℕ) (x : A) → P x → (i : ℕ) → P (f i) → P (at f a x i)
  at_all P f a x p i q =
      by_cases (ℕ_discrete i a) (λ (e : i ≡ a). rw (e, at_same f a x) p) (λ (d : i ≡ a → ⊥). rw (at_other f a x i d) q)

-- what holds of the pair a, b, and of every other
pub pair_all : (P : ℕ → ℕ → Type 0) (a b : ℕ) → P a b → ((i j : ℕ) → (i ≡ a → j ≡ b → ⊥) → P i j) → (i j : ℕ) → P i j
pair_all P a b here other i j =
    by_cases (ℕ_discrete j b)
    (λ (e : j ≡ b). by_cases (ℕ_discrete i a) (λ (e' : i ≡ a). rw (e, e') here) (λ (o : i ≡ a → ⊥). other i j (λ y z. o y)))
    (λ (o : j ≡ b → ⊥). other i j (λ y z. o z))

-- a function of a pair, changed at one
module _ {A : Type 0} where
  pub at2-same : (f : ℕ → ℕ → A) (a b : ℕ) (x : A) → at2 f a b x a b ≡ x
  at2-same f a b x = rw (at_same f a (at (f a) b x), at_same (f a) b x)

  pub at2_other : (f : ℕ → ℕ → A) (a b : ℕ) (x : A) (i j : ℕ) → (i ≡ a → j ≡ b → ⊥) → at2 f a b x i j ≡ f i j
  at2_other f a b x i j d =
      by_cases (ℕ_discrete i a)
      (λ (e : i ≡ a). rw (e, at_same f a (at (f a) b x)) (at_other (f a) b x j (d e)))
      (λ (o : i ≡ a → ⊥). rw (at_other f a (at (f a) b x) i o))

  -- what holds of x, and of f at i, j where that is another pair
  pub at2-all : (P : A → Type 0) (f : ℕ → ℕ → A) (a b : ℕ) (x : A) → P x → (i j : ℕ) → ((i ≡ a → j ≡ b → ⊥) → P (f i j)) → P (at2 f a b x i j)
  at2-all P f a b x p i j q =
      pair_all (λ y z. ((y ≡ a → z ≡ b → ⊥) → P (f y z)) → P (at2 f a b x y z)) a b (λ r. rw (at2-same f a b x) p) (λ y z o r. rw (at2_other f a b x y z o) (r o)) i j q
