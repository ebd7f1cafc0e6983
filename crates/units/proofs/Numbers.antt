-- Units and the numbers that stand for them.
-- Assumes nothing.
use mathlib.Core.Bool.{true}
use mathlib.Core.Logic.{by_cases}
use mathlib.Core.Path.{◌≡◌, refl}
use Prim.Native.Nat.{ℕ, ◌≤◌, ◌<◌}
use native.Mathlib.Decide.{dec_le}
use native.Mathlib.Omega.{arith}
use borrow.Author.Tests.{le-leb, lt-leb}
use Rattle.lists.proofs.Tests.{clash}
use Rattle.quorum.specs.Limits.{most_units, up_to}
use Rattle.units.specs.Units.{no_units, request_in, amount, asked_with, units_of, stock_of, number_of, numbered, storable}
use Rattle.units.specs.declared.Units.{Units}
use Rattle.units.proofs.Amounts.{amount-asked}

-- each stands for the other, in a request and in a stock
pub units_number : (u : Units) → units_of (number_of u) ≡ u
unfolding number_of units_of
units_number u = refl

pub stock-number : (u : Units) → stock_of (number_of u) ≡ u
unfolding number_of stock_of
stock-number u = refl

number-stock : (x : ℕ) → number_of (stock_of x) ≡ x
unfolding number_of stock_of
number-stock x = refl

-- the number tells an amount
pub amount-number : (u : Units) → amount numbered u ≡ number_of u
unfolding amount number_of numbered
amount-number u = refl

-- which is no larger than the k that a table is asked with
number_small : (stock : Units) → number_of stock ≤ asked_with stock
number_small stock = omega (arith, amount-asked stock numbered, amount-number stock)

asked-none : asked_with no_units ≡ 0
unfolding asked_with
asked-none = refl

-- a number that some stock has is stored
stored : (of : ℕ → Units) (x : ℕ) → x ≤ most_units → storable of x ≡ of x
unfolding storable
stored of x le = rw (le-leb x most_units le)

-- any other is no stock's, nor are none
pub asked-stored : (x : ℕ) → up_to most_units (asked_with (storable stock_of x)) ≡ up_to most_units (asked_with (stock_of x))
unfolding storable
asked-stored x =
    by_cases (dec_le x most_units)
    (λ (l : x ≤ most_units). rw (le-leb x most_units l))
    (λ (l : x ≤ most_units → ⊥).
    let large : most_units < asked_with (stock_of x) = omega (arith, number_small (stock_of x), number-stock x) in
    rw (lt-leb x most_units (omega arith), asked-none, lt-leb (asked_with (stock_of x)) most_units large, le-leb 1 (asked_with (stock_of x)) (omega arith)))

-- so what is a stock is what the number stands for
pub stock-stored : (x : ℕ) → up_to most_units (asked_with (storable stock_of x)) ≡ true → storable stock_of x ≡ stock_of x
unfolding storable
stock-stored x e =
    by_cases (dec_le x most_units) (λ (l : x ≤ most_units). stored stock_of x l)
    (λ (l : x ≤ most_units → ⊥). absurd (clash (rw (lt-leb x most_units (omega arith), asked-none) at e) refl))

-- any other is in no request's range, nor are none
pub request-stored : (stock : Units) (x : ℕ) → asked_with stock ≤ most_units → request_in stock (storable units_of x) ≡ request_in stock (units_of x)
unfolding storable request_in asked_with units_of
request-stored stock x le =
    by_cases (dec_le x most_units)
    (λ (l : x ≤ most_units). rw (le-leb x most_units l))
    (λ (l : x ≤ most_units → ⊥). rw (lt-leb x most_units (omega arith), le-leb 1 x (omega arith), lt-leb x stock.positions (omega arith)))

-- so what is in a request's range is what the number stands for
pub requested-stored : (stock : Units) (x : ℕ) → request_in stock (storable units_of x) ≡ true → storable units_of x ≡ units_of x
unfolding storable request_in
requested-stored stock x e =
    by_cases (dec_le x most_units) (λ (l : x ≤ most_units). stored units_of x l)
    (λ (l : x ≤ most_units → ⊥). absurd (clash (rw (lt-leb x most_units (omega arith)) at e) refl))
