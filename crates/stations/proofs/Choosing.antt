-- How many sets of a size there are: none above n, some up to n, and each number from the one before.
-- Assumes nothing.
use mathlib.Core.Path.{◌≡◌, refl, ap, ◌∙◌}
use Prim.Native.Nat.{ℕ, zero, suc, ◌+◌, ◌-◌, ◌*◌, ◌/◌, ◌^◌, ◌≤◌, ◌<◌}
use native.Mathlib.Nat.{le_trans, mul-le-mul, mul-div_cancel}
use native.Mathlib.Numerals.{add-one}
use native.Mathlib.Omega.{arith}
use lib.Pow.{pow_pos, pow_mono}
use Rattle.stations.specs.Sizes.{choose}

pub choose-none : (n s : ℕ) → n < s → choose n s ≡ 0
unfolding choose
choose-none n zero h = absurd (omega arith)
choose-none zero (suc s) h = refl
choose-none (suc n) (suc s) h = omega (arith, choose-none n (suc s) (omega arith), choose-none n s (omega arith))

pub choose-some : (n s : ℕ) → s ≤ n → 1 ≤ choose n s
unfolding choose
choose-some n zero h = omega arith
choose-some zero (suc s) h = absurd (omega arith)
choose-some (suc n) (suc s) h = omega (arith, choose-some n s (omega arith))

-- all of them in one way
pub choose-all : (n : ℕ) → choose n n ≡ 1
unfolding choose
choose-all zero = refl
choose-all (suc n) = omega (arith, choose-none n (suc n) (omega arith), choose-all n)

-- no more than there are sets
pub choose-le : (n s : ℕ) → choose n s ≤ 2 ^ n
unfolding choose
choose-le n zero = pow_pos n
choose-le zero (suc s) = omega arith
choose-le (suc n) (suc s) = omega (arith, choose-le n (suc s), choose-le n s)

-- a chosen station more: s + 1 times over, each set of s with each station that it leaves out
next : (n s : ℕ) → choose n (suc s) * suc s + choose n s * s ≡ n * choose n s
unfolding choose
next zero zero = refl
next zero (suc s) = omega arith
next (suc n) zero = omega (arith, next n zero)
next (suc n) (suc s) = omega (arith, next n (suc s), next n s)

pub choose-next : (n s : ℕ) → s ≤ n → choose n s * (n - s) / (s + 1) ≡ choose n (s + 1)
choose-next n s h =
    let parts : n ≡ s + (n - s) = omega arith in
    let over : choose n s * (n - s) ≡ choose n (s + 1) * (s + 1) = rw (add-one s) (omega (arith, next n s, ap (λ (x : ℕ). x * choose n s) parts)) in
    ap (λ (x : ℕ). x / (s + 1)) over ∙ mul-div_cancel (choose n (s + 1)) (omega arith)

-- small numbers of small numbers
pub choose-small : (n s most : ℕ) → n ≤ most → choose n s * (n - s) ≤ 2 ^ most * most
choose-small n s most h = let left : n - s ≤ most = omega arith in mul-le-mul (le_trans (choose-le n s) (pow_mono h)) left
