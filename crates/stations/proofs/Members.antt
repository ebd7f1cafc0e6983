-- What each operation on masks says of the membership of station i, for every i and every mask.
-- Assumes nothing.
use mathlib.Core.Bool.{Bool, true, false, ◌&&◌, and_comm, and_self}
use mathlib.Core.Logic.{◌⊎◌, inl, inr, ⊎_elim}
use mathlib.Core.Path.{◌≡◌, refl, sym, ap, ◌∙◌}
use Prim.Native.Nat.{ℕ, zero, suc, ◌+◌, ◌-◌, ◌*◌, ◌/◌, ◌%◌, ◌^◌, ◌≤◌, ◌<◌, min}
use native.Mathlib.Nat.{div-eq_of_lt, lt_of_lt_of_le, mod-eq_of_lt, div-one, zero-div, one-mul}
use native.Mathlib.Numerals.{add-one, one-add}
use native.Mathlib.Omega.{arith}
use lib.Arith.{bin_ind}
use lib.Bits.{bit_and, and_shr, and_mod, and_mask}
use lib.Dec.{eqb, ltb}
use lib.Pow.{pow_mono, pow-lt, ones_lt, ones_split, high, low, shr-shr}
use borrow.Author.Tests.{eq-eqb, ne_eqb, eqb-true, ltb-true, ltb-false}
use Rattle.lists.proofs.Tests.{clash, and_left, and-within}
use Rattle.std.proofs.lemmas.Bool.{cases_Bool}
use Rattle.stations.specs.Member.{member}
use Rattle.stations.specs.Sets.{everyone, contains, places}

-- ---- bits

bit : (x : ℕ) → (x % 2 ≡ 0) ⊎ (x % 2 ≡ 1)
bit x = go (x % 2) (omega arith)
  where
    go : (r : ℕ) → r < 2 → (r ≡ 0) ⊎ (r ≡ 1)
    go zero h = inl refl
    go (suc zero) h = inr refl
    go (suc (suc r)) h = absurd (omega arith)

-- ---- members of the parts of a number

pub member_half : (q i : ℕ) → member (q / 2) i ≡ member q (suc i)
unfolding member
member_half q i = ap (λ (x : ℕ). eqb (x % 2) 1) (shr-shr q 1 i ∙ ap (λ (j : ℕ). q / 2 ^ j) (one-add i))

pub member_shift : (q n i : ℕ) → member (q / 2 ^ n) i ≡ member q (n + i)
unfolding member
member_shift q n i = ap (λ (x : ℕ). eqb (x % 2) 1) (shr-shr q n i)

-- ---- equal sets are equal numbers

odd_same : (a b : ℕ) → eqb (a % 2) 1 ≡ eqb (b % 2) 1 → a % 2 ≡ b % 2
odd_same a b e =
    ⊎_elim
    (λ p. ⊎_elim (λ q. p ∙ sym q) (λ q. absurd (clash (eq-eqb (b % 2) 1 q) (sym e ∙ ne_eqb (a % 2) 1 (omega arith)))) (bit b))
    (λ p. ⊎_elim (λ q. absurd (clash (eq-eqb (a % 2) 1 p) (e ∙ ne_eqb (b % 2) 1 (omega arith)))) (λ q. p ∙ sym q) (bit b))
    (bit a)

lowest-same : (a b : ℕ) → member a 0 ≡ member b 0 → a % 2 ≡ b % 2
unfolding member
lowest-same a b e = odd_same a b (simp div-one at e)

pub member-zero : (i : ℕ) → member 0 i ≡ false
unfolding member
member-zero i = rw (zero-div (2 ^ i))

-- a set without members is empty
pub member-none : (q : ℕ) → ((i : ℕ) → member q i ≡ false) → q ≡ 0
member-none q =
    bin_ind (λ (n : ℕ). ((i : ℕ) → member n i ≡ false) → n ≡ 0)
    (λ h. refl)
    (λ n ih h.
    let top : n / 2 ≡ 0 = ih (λ i. member_half n i ∙ h (suc i)) in
    let end : n % 2 ≡ 0 % 2 = lowest-same n 0 (h 0 ∙ sym (member-zero 0)) in
    omega arith)
    q

-- sets with the same members are the same number
pub member_ext : (a b : ℕ) → ((i : ℕ) → member a i ≡ member b i) → a ≡ b
member_ext a =
    bin_ind (λ (n : ℕ). (b : ℕ) → ((i : ℕ) → member n i ≡ member b i) → n ≡ b)
    (λ b h. sym (member-none b (λ i. sym (h i) ∙ member-zero i)))
    (λ n ih b h.
    let top : n / 2 ≡ b / 2 = ih (b / 2) (λ i. member_half n i ∙ h (suc i) ∙ sym (member_half b i)) in
    let end : n % 2 ≡ b % 2 = lowest-same n b (h 0) in
    omega arith)
    a

-- ---- the common part

and_bits : (a b : ℕ) → a < 2 → b < 2 → eqb (bit_and a b) 1 ≡ (eqb a 1 && eqb b 1)
and_bits zero b p q = refl
and_bits (suc zero) zero p q = refl
and_bits (suc zero) (suc zero) p q = refl
and_bits (suc zero) (suc (suc b)) p q = absurd (omega arith)
and_bits (suc (suc a)) b p q = absurd (omega arith)

-- a station is in the common part exactly when it is in both
pub member-and : (a b i : ℕ) → member (bit_and a b) i ≡ (member a i && member b i)
unfolding member
member-and a b i =
    rw (and_shr a b i, and_mod (a / 2 ^ i) (b / 2 ^ i) 1) (and_bits (a / 2 ^ i % 2) (b / 2 ^ i % 2) (omega arith) (omega arith))

-- the order of two common parts does not matter
pub and_swap : (s a b : ℕ) → bit_and (bit_and s a) b ≡ bit_and (bit_and s b) a
and_swap s a b =
    member_ext (bit_and (bit_and s a) b) (bit_and (bit_and s b) a)
    (λ i. simp member-and (swapped (member s i) (member a i) (member b i)))
  where
    swapped : (x y z : Bool) → (x && y && z) ≡ (x && z && y)
    swapped true y z = and_comm y z
    swapped false y z = refl

-- a common part taken twice is taken once
pub and_again : (s a : ℕ) → bit_and (bit_and s a) a ≡ bit_and s a
and_again s a =
    member_ext (bit_and (bit_and s a) a) (bit_and s a) (λ i. simp member-and (again (member s i) (member a i)))
  where
    again : (x y : Bool) → (x && y && y) ≡ (x && y)
    again true y = and_self y
    again false y = refl

-- ---- containment

-- a contains b exactly when every member of b is a member of a
pub contains-members : (a b : ℕ) → contains a b ≡ true → (i : ℕ) → member b i ≡ true → member a i ≡ true
unfolding contains
contains-members a b e i m =
    and_left (member a i) (member b i) (sym (member-and a b i) ∙ ap (λ (q : ℕ). member q i) (eqb-true (bit_and a b) b e) ∙ m)

-- the common part with a set that contains it is the set itself
pub within-and : (a b : ℕ) → ((i : ℕ) → member b i ≡ true → member a i ≡ true) → bit_and a b ≡ b
within-and a b h = member_ext (bit_and a b) b (λ i. member-and a b i ∙ and-within (member a i) (member b i) (h i))

pub members-contains : (a b : ℕ) → ((i : ℕ) → member b i ≡ true → member a i ≡ true) → contains a b ≡ true
unfolding contains
members-contains a b h = eq-eqb (bit_and a b) b (within-and a b h)

-- ---- the first n stations

-- a number below 2^n names only stations below n
pub member_below : (n q i : ℕ) → q < 2 ^ n → n ≤ i → member q i ≡ false
unfolding member
member_below n q i h g = rw (div-eq_of_lt (lt_of_lt_of_le h (pow_mono g)))

-- no set has a member beyond its places
pub member_beyond : (q i : ℕ) → q < 65536 → places ≤ i → member q i ≡ false
member_beyond q i h g = member_below places q i h g

-- a member of a set of stations below n is below n
pub member-station : (n q i : ℕ) → q < 2 ^ n → member q i ≡ true → i < n
member-station n q i h m =
    ⊎_elim (λ t. ltb-true i n t) (λ f. absurd (clash m (member_below n q i h (ltb-false i n f)))) (cases_Bool (ltb i n))

-- everyone is everyone: of n stations, each below n
pub member-everyone : (n i : ℕ) → i < n → member (everyone n) i ≡ true
unfolding member
member-everyone n i h =
    let parts : suc (n - suc i) + i ≡ n = omega arith in
    rw (← parts, ones_split (suc (n - suc i)) i, high (2 ^ suc (n - suc i) - 1) i (ones_lt i), ← add-one (n - suc i), ones_split (n - suc i) 1, low (2 ^ (n - suc i) - 1) 1 {lo = 1} (omega arith))

-- fewer stations, and no more than a mask has places for
pub everyone-le : {n m : ℕ} → n ≤ m → everyone n ≤ everyone m
everyone-le h = omega (arith, pow_mono h)

pub everyone_places : (n : ℕ) → places ≤ n → everyone (min n places) ≡ 65535
everyone_places n h = let most : min n places ≡ places = omega arith in rw most

pub everyone-min : (n : ℕ) → n ≤ places → everyone (min n places) ≡ everyone n
everyone-min n h = let same : min n places ≡ n = omega arith in rw same

-- a shifted one is a power of two
pub shifted_one : (n : ℕ) → n < places → 1 * 2 ^ n % 2 ^ places ≡ 2 ^ n
shifted_one n h = rw (one-mul (2 ^ n)) (mod-eq_of_lt (pow-lt h))

-- a set of stations below n is its own common part with everyone
pub everyone-and : (n q : ℕ) → q < 2 ^ n → bit_and q (everyone n) ≡ q
everyone-and n q h = and_mask q n ∙ mod-eq_of_lt h

odd_zero : (n : ℕ) → n % 2 ≡ 1 → member n 0 ≡ true
unfolding member
odd_zero n o = rw (div-one n, o)

-- a set that is not empty has a member
pub some-member : (q : ℕ) → (q ≡ 0 → ⊥) → (i : ℕ) × (member q i ≡ true)
some-member q =
    bin_ind (λ (n : ℕ). (n ≡ 0 → ⊥) → (i : ℕ) × (member n i ≡ true))
    (λ h. absurd (h refl))
    (λ n ih h.
    ⊎_elim
    (λ (e : n % 2 ≡ 0). let (i, m) = ih (λ z. h (omega arith)) in (suc i, sym (member_half n i) ∙ m))
    (λ (o : n % 2 ≡ 1). (0, odd_zero n o))
    (bit n))
    q
