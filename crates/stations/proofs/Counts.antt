-- The number of members: never more than the stations, and less for a smaller set.
-- Assumes nothing.
use mathlib.Core.Bool.{Bool, true, false, cond, not, ◌&&◌}
use mathlib.Core.Logic.{◌⊎◌, inl, inr, ⊎_elim, by_cases}
use mathlib.Core.Path.{◌≡◌, refl, sym, ◌∙◌}
use Prim.Native.Nat.{ℕ, zero, suc, ◌+◌, ◌^◌, ◌≤◌, ◌<◌}
use native.Mathlib.Decide.{dec_lt}
use native.Mathlib.Nat.{lt_of_le_of_lt}
use native.Mathlib.Numerals.{add-one}
use native.Mathlib.Omega.{arith}
use lib.Bits.{bit_and, and_le_l}
use Rattle.lists.proofs.Below.{below_suc}
use Rattle.lists.proofs.Counting.{many_not, many_pass, many_fail, many_none, many_some}
use Rattle.std.proofs.lemmas.Bool.{cases_Bool}
use Rattle.lists.specs.Counting.{how_many}
use Rattle.stations.specs.Member.{member}
use Rattle.stations.specs.Sets.{count_below, everyone}
use Rattle.stations.proofs.Members.{member-and, member_below, member_ext, member-everyone, member-zero}

-- of n stations at most n are members
pub count_le : (q n : ℕ) → count_below q n ≤ n
count_le q n = omega (arith, many_not (member q) n)

-- one station more
pub count_member : (q i : ℕ) → member q i ≡ true → count_below q i + 1 ≡ count_below q (i + 1)
count_member q i m = rw (add-one i) (add-one (count_below q i) ∙ sym (many_pass (member q) i m))

pub count_other : (q i : ℕ) → member q i ≡ false → count_below q i ≡ count_below q (i + 1)
count_other q i m = rw (add-one i) (sym (many_fail (member q) i m))

-- among the first n stations the common part with q has fewer members than s, or exactly those of s
abbrev FewerOrSame : ℕ → ℕ → ℕ → Type 0
FewerOrSame s q n =
    (count_below (bit_and s q) n < count_below s n)
    ⊎ ((count_below (bit_and s q) n ≡ count_below s n) × ((i : ℕ) → i < n → member (bit_and s q) i ≡ member s i))

one_more : (s q n : ℕ) → FewerOrSame s q n → (a b : Bool) → member s n ≡ a → member q n ≡ b → FewerOrSame s q (suc n)
unfolding how_many
one_more s q n (inl h) true true p r = inl (rw (member-and s q n, p, r) (omega arith))
one_more s q n (inl h) true false p r = inl (rw (member-and s q n, p, r) (omega arith))
one_more s q n (inl h) false b p r = inl (rw (member-and s q n, p) (omega arith))
one_more s q n (inr h) true false p r = inl (rw (member-and s q n, p, r) (omega arith))
one_more s q n (inr h) true true p r = inr (rw (member-and s q n, p, r) (omega arith), below_suc n h.1 (member-and s q n ∙ rw (p, r)))
one_more s q n (inr h) false b p r = inr (rw (member-and s q n, p) (omega arith), below_suc n h.1 (member-and s q n ∙ rw p))

fewer_or_same : (s q n : ℕ) → FewerOrSame s q n
unfolding how_many
fewer_or_same s q zero = inr (refl, λ i h. absurd (omega arith))
fewer_or_same s q (suc n) = one_more s q n (fewer_or_same s q n) (member s n) (member q n) refl refl

-- a common part that is not the whole set has fewer members
pub count_fewer : (s q n : ℕ) → s < 2 ^ n → (bit_and s q ≡ s → ⊥) → count_below (bit_and s q) n < count_below s n
count_fewer s q n h differ = ⊎_elim (λ less. less) (λ same. absurd (differ (member_ext (bit_and s q) s (all same.1)))) (fewer_or_same s q n)
  where
    all : ((i : ℕ) → i < n → member (bit_and s q) i ≡ member s i) → (i : ℕ) → member (bit_and s q) i ≡ member s i
    all below i =
        by_cases (dec_lt i n) (λ p. below i p)
        (λ p. member_below n (bit_and s q) i (lt_of_le_of_lt (and_le_l s q) h) (omega arith) ∙ sym (member_below n s i h (omega arith)))

-- two sets have no more members together than there are stations and common members
pub count_and : (a b n : ℕ) → count_below a n + count_below b n ≤ n + count_below (bit_and a b) n
unfolding how_many
count_and a b zero = omega arith
count_and a b (suc n) = rw (member-and a b n) (go (member a n) (member b n) (count_and a b n))
  where
    go : (x y : Bool) → count_below a n + count_below b n ≤ n + count_below (bit_and a b) n
        → cond x 1 0 + count_below a n + (cond y 1 0 + count_below b n) ≤ suc n + (cond (x && y) 1 0 + count_below (bit_and a b) n)
    go true true h = omega arith
    go true false h = omega arith
    go false true h = omega arith
    go false false h = omega arith

-- of everyone, all
pub count_everyone : (n : ℕ) → count_below (everyone n) n ≡ n
count_everyone n = omega (arith, many_not (member (everyone n)) n, many_none (λ i. not (member (everyone n) i)) n (λ i h. rw (member-everyone n i h)))

-- n members of n stations are all of them
pub count_all : (n q : ℕ) → count_below q n ≡ n → (i : ℕ) → i < n → member q i ≡ true
count_all n q all i h =
    ⊎_elim (λ t. t) (λ e. absurd (omega (arith, many_not (member q) n, many_some (λ j. not (member q j)) n i h (rw e)))) (cases_Bool (member q i))

-- the empty set has none
pub count_none : (n : ℕ) → count_below 0 n ≡ 0
count_none n = many_none (member 0) n (λ i h. member-zero i)
