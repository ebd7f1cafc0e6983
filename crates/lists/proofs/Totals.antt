-- Sums over the numbers below a bound.
-- Assumes nothing.
use mathlib.Core.Logic.{by_cases}
use mathlib.Core.Path.{◌≡◌, refl, ap, ap₂}
use Prim.Native.Nat.{ℕ, zero, suc, ◌+◌, ◌*◌, ◌≤◌, ◌<◌}
use native.Mathlib.Decide.{ℕ_discrete}
use native.Mathlib.Nat.{add_comm}
use native.Mathlib.Numerals.{add-one}
use native.Mathlib.Omega.{arith}
use Rattle.lists.specs.At.{at}
use Rattle.lists.specs.Counting.{total}
use Rattle.lists.proofs.Changed.{at_same, at_other}

-- values that agree below n
pub total-same : (f g : ℕ → ℕ) (n : ℕ) → ((i : ℕ) → i < n → f i ≡ g i) → total f n ≡ total g n
unfolding total
total-same f g zero h = refl
total-same f g (suc n) h = ap₂ ◌+◌ (h n (omega arith)) (total-same f g n (λ i p. h i (omega arith)))

-- values that are nowhere greater
pub total-le : (f g : ℕ → ℕ) (n : ℕ) → ((i : ℕ) → i < n → f i ≤ g i) → total f n ≤ total g n
unfolding total
total-le f g zero h = omega arith
total-le f g (suc n) h = let last = h n (omega arith) in let rest = total-le f g n (λ i p. h i (omega arith)) in omega arith

-- and smaller at one of the numbers
pub total_less : (f g : ℕ → ℕ) (n a : ℕ) → a < n → ((i : ℕ) → i < n → f i ≤ g i) → f a < g a → total f n < total g n
unfolding total
total_less f g zero a l h less = absurd (omega arith)
total_less f g (suc n) a l h less =
    by_cases (ℕ_discrete a n) (λ (e : a ≡ n). let here = rw e at less in let rest = total-le f g n (λ i p. h i (omega arith)) in omega arith)
    (λ (d : a ≡ n → ⊥). let last = h n (omega arith) in let rest = total_less f g n a (omega arith) (λ i p. h i (omega arith)) less in omega arith)

-- values of at most c
pub total_most : (f : ℕ → ℕ) (n c : ℕ) → ((i : ℕ) → i < n → f i ≤ c) → total f n ≤ n * c
unfolding total
total_most f zero c h = omega arith
total_most f (suc n) c h = let last = h n (omega arith) in let rest = total_most f n c (λ i p. h i (omega arith)) in omega arith

-- fewer numbers
pub total-within : (f : ℕ → ℕ) (i n : ℕ) → i ≤ n → total f i ≤ total f n
unfolding total
total-within f i zero h = let e : i ≡ 0 = omega arith in rw e (omega arith)
total-within f i (suc n) h =
    by_cases (ℕ_discrete i (suc n)) (λ (e : i ≡ suc n). rw e (omega arith))
    (λ (d : i ≡ suc n → ⊥). let rest = total-within f i n (omega arith) in omega arith)

-- no value
pub total-none : (f : ℕ → ℕ) (n : ℕ) → ((i : ℕ) → i < n → f i ≡ 0) → total f n ≡ 0
unfolding total
total-none f zero h = refl
total-none f (suc n) h = let last = h n (omega arith) in let rest = total-none f n (λ i p. h i (omega arith)) in omega arith

-- some value
pub total-some : (f : ℕ → ℕ) (n : ℕ) → 0 < total f n → (i : ℕ) × (i < n) × (0 < f i)
unfolding total
total-some f zero h = absurd (omega arith)
total-some f (suc n) h =
    by_cases (ℕ_discrete (f n) 0) (λ (e : f n ≡ 0). let (i, l, some) = total-some f n (omega arith) in (i, omega arith, some))
    (λ (d : f n ≡ 0 → ⊥). (n, omega arith, omega arith))

-- numbers from m on that have no value
pub total_past : (f : ℕ → ℕ) (m n : ℕ) → m ≤ n → ((i : ℕ) → m ≤ i → i < n → f i ≡ 0) → total f n ≡ total f m
unfolding total
total_past f m zero h none = let e : m ≡ 0 = omega arith in rw e
total_past f m (suc n) h none =
    by_cases (ℕ_discrete m (suc n)) (λ (e : m ≡ suc n). rw e)
    (λ (d : m ≡ suc n → ⊥). let last = none n (omega arith) (omega arith) in let rest = total_past f m n (omega arith) (λ i l p. none i l (omega arith)) in omega arith)

-- what v reads off g, changed at one place: below the bound, and anywhere
module _ {A : Type 0} (v : A → ℕ) (g : ℕ → A) (a : ℕ) (x : A) where
  total_beyond : (n : ℕ) → n ≤ a → total (λ i. v (at g a x i)) n ≡ total (λ i. v (g i)) n
  total_beyond n h = total-same (λ i. v (at g a x i)) (λ i. v (g i)) n (λ i p. ap v (at_other g a x i (λ e. omega arith)))

  pub total-at : (n : ℕ) → a < n → total (λ i. v (at g a x i)) n + v (g a) ≡ total (λ i. v (g i)) n + v x
  unfolding total
  total-at zero h = absurd (omega arith)
  total-at (suc n) h =
      by_cases (ℕ_discrete n a)
      (λ (e : n ≡ a). rw e (let here = ap v (at_same g a x) in let rest = total_beyond a (omega arith) in omega arith))
      (λ (d : n ≡ a → ⊥). let here = ap v (at_other g a x n d) in let rest = total-at n (omega arith) in omega arith)

  pub total-at-le : (n : ℕ) → total (λ i. v (at g a x i)) n ≤ v x + total (λ i. v (g i)) n
  unfolding total
  total-at-le zero = omega arith
  total-at-le (suc n) =
      by_cases (ℕ_discrete n a)
      (λ (e : n ≡ a). rw e (let here = ap v (at_same g a x) in let rest = total_beyond a (omega arith) in omega arith))
      (λ (d : n ≡ a → ⊥). let here = ap v (at_other g a x n d) in let rest = total-at-le n in omega arith)

-- one number more
pub total-more : (f : ℕ → ℕ) (i : ℕ) → total f (i + 1) ≡ total f i + f i
unfolding total
total-more f i = rw (add-one i) (add_comm (f i) (total f i))
