-- Amounts of units, added up over stations.
-- Assumes nothing.
use mathlib.Core.Bool.{true, false}
use mathlib.Core.Path.{◌≡◌, refl, ap}
use Prim.Native.Nat.{ℕ, ◌+◌, ◌≤◌, ◌<◌}
use native.Mathlib.Omega.{arith}
use lib.Dec.{leb}
use borrow.Author.Tests.{le-leb, leb-true, leb-false}
use Rattle.lists.specs.At.{at}
use Rattle.lists.specs.Counting.{total}
use Rattle.lists.proofs.Tests.{and_both, and_right}
use Rattle.lists.proofs.Totals.{total-none, total-some, total-at-le}
use Rattle.units.specs.Units.{no_units, request_in, fits, Amount, amount, only, asked_with, asked_by}
use Rattle.units.specs.declared.Units.{Units}

pub amount-none : (a : Amount) → amount a no_units ≡ 0
unfolding amount
amount-none Amount.positions = refl

-- ---- so much of one amount, and nothing else

pub only-amount : (a : Amount) (x : ℕ) → amount a (only a x) ≡ x
unfolding amount only
only-amount Amount.positions x = refl

pub only-request : (stock : Units) (a : Amount) (x : ℕ) → 1 ≤ x → x ≤ amount a stock → request_in stock (only a x) ≡ true
unfolding amount only request_in
only-request stock Amount.positions x one le = and_both (le-leb 1 x one) (le-leb x stock.positions le)

-- ---- the stock: a table is asked with the largest of its amounts

pub amount-asked : (stock : Units) (a : Amount) → amount a stock ≤ asked_with stock
unfolding amount asked_with
amount-asked stock Amount.positions = omega arith

pub asked-amount : (stock : Units) → amount (asked_by stock) stock ≡ asked_with stock
unfolding amount asked_with asked_by
asked-amount stock = refl

-- ---- all units granted at an arbiter

-- no amount of them is larger than the stock's
abbrev pub Within : ℕ → Units → (ℕ → Units) → Type 0
Within n stock granted = (a : Amount) → total (λ s. amount a (granted s)) n ≤ amount a stock

module _ (n : ℕ) (stock : Units) where
  pub within_none : Within n stock (λ s. no_units)
  within_none a = omega (arith, total-none (λ s. amount a no_units) n (λ s l. amount-none a))

  module _ (granted : ℕ → Units) where
    -- the units of station s given back
    pub within_cleared : (s : ℕ) → Within n stock granted → Within n stock (at granted s no_units)
    within_cleared s w a = omega (arith, w a, amount-none a, total-at-le (amount a) granted s no_units n)

    -- units that fit, granted to station s
    pub within-fits : (s : ℕ) (u : Units) → fits n stock granted u ≡ true → Within n stock (at granted s u)
    unfolding fits amount
    within-fits s u e Amount.positions =
        omega (arith, total-at-le (amount Amount.positions) granted s u n, leb-true (u.positions + total (λ s. (granted s).positions) n) stock.positions e)

    -- of one amount alone no other can be too large
    pub only-fits : (a : Amount) (x : ℕ) → Within n stock granted → x + total (λ s. amount a (granted s)) n ≤ amount a stock → fits n stock granted (only a x) ≡ true
    unfolding fits amount only
    only-fits Amount.positions x w le = le-leb (x + total (λ s. (granted s).positions) n) stock.positions le

    -- units that are asked for fit where nothing is granted: where they do not, something is granted to a station
    pub some-granted : (u : Units) → request_in stock u ≡ true → fits n stock granted u ≡ false → (s : ℕ) × (s < n) × (granted s ≡ no_units → ⊥)
    unfolding fits request_in
    some-granted u asked e =
        let few = leb-true u.positions stock.positions (and_right (leb 1 u.positions) (leb u.positions stock.positions) asked) in
        let many = leb-false (u.positions + total (λ s. (granted s).positions) n) stock.positions e in
        let (s, l, some) = total-some (λ s. (granted s).positions) n (omega arith) in
        (s, l, λ none. omega (arith, ap (λ (g : Units). g.positions) none))
