-- Sets built station by station: who belongs to them, and how many.
-- Assumes nothing.
use mathlib.Core.Bool.{Bool, true, false, cond, ◌&&◌, and-false}
use mathlib.Core.Logic.{by_cases}
use mathlib.Core.Path.{◌≡◌, refl, sym, ap, ◌∙◌}
use Prim.Native.Nat.{ℕ, zero, suc, ◌+◌, ◌-◌, ◌*◌, ◌/◌, ◌%◌, ◌^◌, ◌≤◌, ◌<◌}
use native.Mathlib.Decide.{ℕ_discrete, dec_le}
use native.Mathlib.Nat.{pow-suc, one-mul, zero-add, add-zero, add_comm, mul-add-div_right}
use native.Mathlib.Numerals.{add-one}
use native.Mathlib.Omega.{arith}
use lib.Bits.{bit_and}
use lib.Dec.{eqb}
use lib.Pow.{pow_pos, pow-add, high}
use borrow.Author.Tests.{lt-ltb, le-ltb}
use Rattle.lists.proofs.Below.{below_suc}
use Rattle.lists.proofs.Counting.{many_same, many_add, many_none, many_pass, many_fail}
use Rattle.lists.specs.Counting.{how_many}
use Rattle.stations.specs.Member.{member}
use Rattle.stations.specs.Sets.{count_below, set_of, only, places}
use Rattle.stations.proofs.Members.{member_below, member-and, member_ext}

-- ---- station n and stations below it

pub member_top : (n q : ℕ) → q < 2 ^ n → member (2 ^ n + q) n ≡ true
unfolding member
member_top n q h = let one : (2 ^ n + q) / 2 ^ n ≡ 1 = ap (λ (x : ℕ). (x + q) / 2 ^ n) (sym (one-mul (2 ^ n))) ∙ high 1 n h in rw one

-- the highest station of a set
pub member_highest : (n s : ℕ) → 2 ^ n ≤ s → s < 2 ^ n + 2 ^ n → member s n ≡ true
member_highest n s h less =
    let parts : 2 ^ n + (s - 2 ^ n) ≡ s = omega arith in
    ap (λ (x : ℕ). member x n) (sym parts) ∙ member_top n (s - 2 ^ n) (omega arith)

pub member_under : (n q i : ℕ) → i < n → member (2 ^ n + q) i ≡ member q i
unfolding member
member_under n q i h =
    let parts : suc (n - suc i) + i ≡ n = omega arith in
    let power : 2 ^ n ≡ 2 ^ suc (n - suc i) * 2 ^ i = ap (λ (x : ℕ). 2 ^ x) (sym parts) ∙ pow-add 2 (suc (n - suc i)) i in
    let upper : (2 ^ n + q) / 2 ^ i ≡ 2 ^ suc (n - suc i) + q / 2 ^ i = ap (λ (x : ℕ). (x + q) / 2 ^ i) power ∙ mul-add-div_right (pow_pos i) (2 ^ suc (n - suc i)) q in
    let bit : (2 ^ n + q) / 2 ^ i % 2 ≡ q / 2 ^ i % 2 = omega arith in
    ap (λ (x : ℕ). eqb x 1) bit

add-lt_pow' : (n t : ℕ) → t < 2 ^ n → 2 ^ n + t < 2 ^ suc n
add-lt_pow' n t h = let twice = pow-suc 2 n in omega arith

-- what a set without station n has in common with a set of which n is the highest
pub and_under : (n t q : ℕ) → t < 2 ^ n → member q n ≡ false → bit_and (2 ^ n + t) q ≡ bit_and t q
and_under n t q h lacks =
    member_ext (bit_and (2 ^ n + t) q) (bit_and t q) (λ i. member-and (2 ^ n + t) q i ∙ same i ∙ sym (member-and t q i))
  where
    none : (i : ℕ) → n ≤ i → (member (2 ^ n + t) i && member q i) ≡ false
    none i l =
        by_cases (ℕ_discrete i n)
        (λ (e : i ≡ n). ap (λ (b : Bool). member (2 ^ n + t) i && b) (ap (λ (k : ℕ). member q k) e ∙ lacks) ∙ and-false (member (2 ^ n + t) i))
        (λ (d : i ≡ n → ⊥). ap (λ (b : Bool). b && member q i) (member_below (suc n) (2 ^ n + t) i (add-lt_pow' n t h) (omega arith)))

    same : (i : ℕ) → (member (2 ^ n + t) i && member q i) ≡ (member t i && member q i)
    same i =
        by_cases (dec_le (suc i) n)
        (λ (l : suc i ≤ n). ap (λ (b : Bool). b && member q i) (member_under n t i l))
        (λ (l : ¬ (suc i ≤ n)). none i (omega arith) ∙ sym (ap (λ (b : Bool). b && member q i) (member_below n t i h (omega arith))))

-- ---- one station alone

pub only_below : (i : ℕ) → i < places → only i ≡ 2 ^ i
unfolding only
only_below i h = rw (lt-ltb i places h)

pub only_some : (i : ℕ) → i < places → 1 ≤ only i
only_some i h = omega (arith, only_below i h, pow_pos i)

pub only_beyond : (i : ℕ) → places ≤ i → only i ≡ 0
unfolding only
only_beyond i h = rw (le-ltb i places h)

pub member-only : (i : ℕ) → member (2 ^ i) i ≡ true
member-only i = ap (λ (q : ℕ). member q i) (sym (add-zero (2 ^ i))) ∙ member_top i 0 (pow_pos i)

-- ---- the set of the stations below n that pass a test

pub set_below : (f : ℕ → Bool) (n : ℕ) → set_of f n < 2 ^ n
unfolding set_of
set_below f zero = omega arith
set_below f (suc n) = go (f n) (set_below f n)
  where
    go : (b : Bool) → set_of f n < 2 ^ n → cond b (2 ^ n) 0 + set_of f n < 2 ^ suc n
    go true h = omega arith
    go false h = omega (arith, pow_pos n)

-- one station more: it passes, or it does not
pub set_pass : (f : ℕ → Bool) (n : ℕ) → f n ≡ true → set_of f n + 2 ^ n ≡ set_of f (n + 1)
unfolding set_of
set_pass f n e = rw (add-one n, e) (add_comm (set_of f n) (2 ^ n))

pub set_fail : (f : ℕ → Bool) (n : ℕ) → f n ≡ false → set_of f n ≡ set_of f (n + 1)
unfolding set_of
set_fail f n e = rw (add-one n, e) (sym (zero-add (set_of f n)))

pub member-set : (f : ℕ → Bool) (n i : ℕ) → i < n → member (set_of f n) i ≡ f i
unfolding set_of
member-set f zero i h = absurd (omega arith)
member-set f (suc n) i h =
    below_suc {P = λ j. member (cond (f n) (2 ^ n) 0 + set_of f n) j ≡ f j} n
    (λ j l. under (f n) j l ∙ member-set f n j l) (top (f n) refl) i h
  where
    under : (b : Bool) (j : ℕ) → j < n → member (cond b (2 ^ n) 0 + set_of f n) j ≡ member (set_of f n) j
    under true j l = member_under n (set_of f n) j l
    under false j l = ap (λ (q : ℕ). member q j) (zero-add (set_of f n))

    top : (b : Bool) → f n ≡ b → member (cond b (2 ^ n) 0 + set_of f n) n ≡ f n
    top true e = member_top n (set_of f n) (set_below f n) ∙ sym e
    top false e = ap (λ (q : ℕ). member q n) (zero-add (set_of f n)) ∙ member_below n (set_of f n) n (set_below f n) (omega arith) ∙ sym e

pub count_set : (f : ℕ → Bool) (n : ℕ) → count_below (set_of f n) n ≡ how_many f n
count_set f n = many_same (member (set_of f n)) f n (member-set f n)

-- ---- one station more

pub count_top : (n q : ℕ) → q < 2 ^ n → count_below (2 ^ n + q) (suc n) ≡ suc (count_below q n)
count_top n q h =
    many_pass (member (2 ^ n + q)) n (member_top n q h)
    ∙ ap suc (many_same (member (2 ^ n + q)) (member q) n (member_under n q))

pub count_under : (n q : ℕ) → q < 2 ^ n → count_below q (suc n) ≡ count_below q n
count_under n q h = many_fail (member q) n (member_below n q n h (omega arith))

-- of a set of stations below n, the stations from n on change nothing
pub count_within : (n m q : ℕ) → q < 2 ^ n → n ≤ m → count_below q m ≡ count_below q n
count_within n m q h l =
    let parts : m ≡ n + (m - n) = omega arith in
    ap (count_below q) parts ∙ many_add (member q) n (m - n)
    ∙ omega (arith, many_none (λ i. member q (n + i)) (m - n) (λ i p. member_below n q (n + i) h (omega arith)))
