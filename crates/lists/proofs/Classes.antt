-- The numbers below a bound that pass a test, told apart by a value that each of them has: how many there are of each value.
-- Assumes nothing.
use mathlib.Core.Bool.{Bool, true, false, ◌&&◌, and-false}
use mathlib.Core.List.{[], ◌∷◌, sum, sum-append}
use mathlib.Core.Logic.{by_cases, ⊎_elim}
use mathlib.Core.Path.{◌≡◌, refl, sym, ◌∙◌}
use Prim.Native.Nat.{ℕ, zero, suc, ◌+◌, ◌<◌}
use native.Mathlib.Decide.{ℕ_discrete}
use native.Mathlib.Nat.{add_assoc, zero-add}
use native.Mathlib.Numerals.{add-one}
use native.Mathlib.Omega.{arith}
use lib.Dec.{eqb}
use lib.ListN.{set}
use borrow.Author.Tests.{eq-eqb, ne_eqb}
use Rattle.lists.specs.At.{at}
use Rattle.lists.specs.Counting.{how_many, each, total}
use Rattle.lists.proofs.Changed.{at_same, at_other}
use Rattle.lists.proofs.Counting.{many_pass, many_fail, each_same, each_set}
use Rattle.lists.proofs.Tests.{and_both}
use Rattle.std.proofs.lemmas.Bool.{cases_Bool}
use Rattle.lists.proofs.Totals.{total-same, total-none, total-at}

-- how many below n pass f and have the value v by g
abbrev pub of_value : (ℕ → ℕ) → (ℕ → Bool) → ℕ → ℕ → ℕ
of_value g f n v = how_many (λ i. eqb (g i) v && f i) n

module _ (g : ℕ → ℕ) (f : ℕ → Bool) where
  -- one number more: it does not pass, or it passes, and one value has one more
  value_fail : (n v : ℕ) → f n ≡ false → of_value g f (suc n) v ≡ of_value g f n v
  value_fail n v e = many_fail (λ i. eqb (g i) v && f i) n (rw e (and-false (eqb (g n) v)))

  value_pass : (n v : ℕ) → f n ≡ true → of_value g f (suc n) v ≡ at (of_value g f n) (g n) (suc (of_value g f n (g n))) v
  value_pass n v t =
      by_cases (ℕ_discrete v (g n))
      (λ (e : v ≡ g n). rw (e, at_same (of_value g f n) (g n) (suc (of_value g f n (g n))))
      (many_pass (λ i. eqb (g i) (g n) && f i) n (and_both (eq-eqb (g n) (g n) refl) t)))
      (λ (d : v ≡ g n → ⊥). rw (at_other (of_value g f n) (g n) (suc (of_value g f n (g n))) v d)
      (many_fail (λ i. eqb (g i) v && f i) n (rw (ne_eqb (g n) v (λ e. d (sym e))))))

  -- the counts of all values below m, in a list
  pub values_fail : (n m : ℕ) → f n ≡ false → each (of_value g f n) m ≡ each (of_value g f (n + 1)) m
  values_fail n m e = rw (add-one n) (each_same (of_value g f n) (of_value g f (suc n)) m (λ v h. sym (value_fail n v e)))

  pub values_pass : (n m : ℕ) → f n ≡ true → g n < m → set (each (of_value g f n) m) (g n) (of_value g f n (g n) + 1) ≡ each (of_value g f (n + 1)) m
  values_pass n m t h =
      rw (add-one n, add-one (of_value g f n (g n)))
      (each_set (of_value g f n) m (g n) (suc (of_value g f n (g n))) h
      ∙ each_same (at (of_value g f n) (g n) (suc (of_value g f n (g n)))) (of_value g f (suc n)) m (λ v l. sym (value_pass n v t)))

  -- where every value is below m, all that pass are counted
  pub values_total : (n m : ℕ) → ((i : ℕ) → i < n → g i < m) → total (of_value g f n) m ≡ how_many f n
  unfolding how_many
  values_total zero m h = total-none (of_value g f 0) m (λ v l. refl)
  values_total (suc n) m h =
      let before = values_total n m (λ i l. h i (omega arith)) in
      ⊎_elim
      (λ (t : f n ≡ true).
      let same = total-same (of_value g f (suc n)) (at (of_value g f n) (g n) (suc (of_value g f n (g n)))) m (λ v l. value_pass n v t) in
      omega (arith, same, before, many_pass f n t, total-at (λ (x : ℕ). x) (of_value g f n) (g n) (suc (of_value g f n (g n))) m (h n (omega arith))))
      (λ (e : f n ≡ false). omega (arith, total-same (of_value g f (suc n)) (of_value g f n) m (λ v l. value_fail n v e), before, many_fail f n e))
      (cases_Bool (f n))

-- ---- the sum of a list of values

pub sum-each : (g : ℕ → ℕ) (n : ℕ) → sum ◌+◌ 0 (each g n) ≡ total g n
unfolding each total sum
sum-each g zero = refl
sum-each g (suc n) = sum-append ◌+◌ 0 zero-add add_assoc (each g n) (g n ∷ []) ∙ omega (arith, sum-each g n)
