-- How many members of a set lie from a station on, and above the lowest of them.
-- Assumes nothing.
use mathlib.Core.Bool.{Bool, true, false, cond, ◌&&◌}
use mathlib.Core.Logic.{by_cases}
use mathlib.Core.Path.{◌≡◌, refl, sym, ap, ◌∙◌}
use Prim.Native.Nat.{ℕ, zero, suc, ◌+◌, ◌-◌, ◌/◌, ◌^◌, ◌≤◌, ◌<◌}
use native.Mathlib.Decide.{dec_le}
use native.Mathlib.Nat.{div-le_self}
use native.Mathlib.Numerals.{add-one}
use native.Mathlib.Omega.{arith}
use lib.Dec.{leb}
use borrow.Author.Tests.{eq-eqb, le-leb, lt-leb}
use Rattle.std.specs.Int.{bit_at, trailing_zeros, w16}
use Rattle.std.proofs.lemmas.Nat.Bits.{bit_at-trailing_zeros}
use Rattle.lists.proofs.Counting.{many_same, many_add, many_none, many_not}
use Rattle.lists.specs.Counting.{how_many}
use Rattle.stations.specs.Member.{member}
use Rattle.stations.specs.Sets.{places, count_below, size, lowest_among, lowest_from, members_from, members_above, next_from}
use Rattle.stations.specs.declared.NextMember.{NextMember}
use Rattle.stations.proofs.Counts.{count_member, count_other}
use Rattle.stations.proofs.Lowest.{lowest_end, lowest-only, lowest-none}
use Rattle.stations.proofs.Members.{member_shift, member_below, member-station, member-zero}

-- members below a station, and those from it on
pub count_split : (q i : ℕ) → i ≤ places → count_below q i + members_from q i ≡ size q
unfolding members_from
count_split q i h =
    let more : ℕ = places - i in
    let parts : i + more ≡ places = omega arith in
    let below = many_none (λ j. leb i j && member q j) i (λ j l. rw (lt-leb i j l)) in
    let above = many_same (λ j. leb i (i + j) && member q (i + j)) (λ j. member q (i + j)) more (λ j l. rw (le-leb i (i + j) (omega arith))) in
    let all = ap (how_many (member q)) (sym parts) ∙ many_add (member q) i more in
    let these = ap (how_many (λ j. leb i j && member q j)) (sym parts) ∙ many_add (λ j. leb i j && member q j) i more in
    omega arith

-- ---- one station further

pub from_here : (q i : ℕ) → i < places → member q i ≡ true → members_from q i ≡ suc (members_from q (suc i))
from_here q i h m =
    let one = rw (add-one i) at (count_member q i m) in
    omega (arith, count_split q i (omega arith), count_split q (suc i) (omega arith))

pub from_later : (q i : ℕ) → i < places → member q i ≡ false → members_from q i ≡ members_from q (suc i)
from_later q i h m =
    let same = rw (add-one i) at (count_other q i m) in
    omega (arith, count_split q i (omega arith), count_split q (suc i) (omega arith))

pub from_end : (q i : ℕ) → places ≤ i → members_from q i ≡ 0
unfolding members_from
from_end q i h = many_none (λ j. leb i j && member q j) places (λ j l. rw (lt-leb i j (omega arith)))

-- a set has no more members than places
pub from_le : (q i : ℕ) → members_from q i ≤ places
unfolding members_from
from_le q i = omega (arith, many_not (λ j. leb i j && member q j) places)

-- ---- the lowest member from a station on, and those above it

-- what r is to the members of q from i on: one of them, with all others above it, or 16, and there are none
abbrev Leading : ℕ → ℕ → ℕ → Type 0
Leading q i r = (r < places → members_from q i ≡ suc (members_above q r)) × (places ≤ r → members_from q i ≡ 0)

leading : (q i more : ℕ) → i + more ≡ places → Leading q i (lowest_among q i more)
unfolding lowest_among
leading q i zero e = (λ h. absurd (omega arith), λ h. from_end q i (omega arith))
leading q i (suc more) e = go (member q i) refl (leading q (suc i) more (omega arith))
  where
    go : (b : Bool) → member q i ≡ b → Leading q (suc i) (lowest_among q (suc i) more) → Leading q i (cond b i (lowest_among q (suc i) more))
    go true m l = (λ h. from_here q i h m, λ h. absurd (omega arith))
    go false m l = let same = from_later q i (omega arith) m in (λ h. same ∙ l.0 h, λ h. same ∙ l.1 h)

leads : (q i : ℕ) → Leading q i (lowest_from q i)
unfolding lowest_from lowest_among
leads q i =
    by_cases (dec_le i places)
    (λ (h : i ≤ places). leading q i (places - i) (omega arith))
    (λ (h : ¬ (i ≤ places)). let none : places - i ≡ 0 = omega arith in rw none (λ l. absurd (omega arith), λ l. from_end q i (omega arith)))

pub from_lowest : (q i : ℕ) → lowest_from q i < places → members_from q i ≡ suc (members_above q (lowest_from q i))
from_lowest q i h = (leads q i).0 h

pub from_none : (q i : ℕ) → places ≤ lowest_from q i → members_from q i ≡ 0
from_none q i h = (leads q i).1 h

-- from station 0 on, all
pub from_all : (q : ℕ) → members_from q 0 ≡ size q
unfolding how_many
from_all q = omega (arith, count_split q 0 (omega arith))

-- where there are no places, nothing follows
pub next_end : (q from : ℕ) → places ≤ from → ◌≡◌ {A = NextMember} (record { member = places; above = 0 }) (next_from q from)
unfolding next_from
next_end q from h = rw (lowest_end q from h, from_end q (suc places) (omega arith))

-- the members from a station on, each by its distance from there
module _ (q from rest : ℕ) (set : q < 2 ^ places) (within : from < places) (is : rest ≡ q / 2 ^ from) where
  member-rest : (j : ℕ) → member rest j ≡ member q (from + j)
  member-rest j = ap (λ (x : ℕ). member x j) is ∙ member_shift q from j

  -- station j of q, by its distance
  distance : (j : ℕ) → from ≤ j → member q j ≡ member rest (j - from)
  distance j h = let parts : from + (j - from) ≡ j = omega arith in sym (member-rest (j - from) ∙ ap (member q) parts)

  pub size-rest : size rest ≡ members_from q from
  unfolding members_from
  size-rest =
      let more : ℕ = places - from in
      let parts : from + more ≡ places = omega arith in
      let turned : more + from ≡ places = omega arith in
      let below = many_none (λ j. leb from j && member q j) from (λ j l. rw (lt-leb from j l)) in
      let above = many_same (λ j. leb from (from + j) && member q (from + j)) (member rest) more (λ j l. rw (le-leb from (from + j) (omega arith)) (sym (member-rest j))) in
      let these = ap (how_many (λ j. leb from j && member q j)) (sym parts) ∙ many_add (λ j. leb from j && member q j) from more in
      let all = ap (how_many (member rest)) (sym turned) ∙ many_add (member rest) more from in
      let beyond = many_none (λ j. member rest (more + j)) from (λ j l. member-rest (more + j) ∙ member_below places q (from + (more + j)) set (omega arith)) in
      omega arith

  pub next_none : rest ≡ 0 → ◌≡◌ {A = NextMember} (record { member = places; above = 0 }) (next_from q from)
  unfolding next_from
  next_none none =
      let lowest = lowest-none q from (λ j h. distance j h ∙ rw none (member-zero (j - from))) in
      rw (lowest, from_end q (suc places) (omega arith))

  -- its lowest member and their number
  module _ (some : 0 < rest) where
    low : (trailing_zeros w16 rest < places) × (bit_at rest (trailing_zeros w16 rest) ≡ 1) × ((i : ℕ) → i < trailing_zeros w16 rest → bit_at rest i ≡ 0)
    low = bit_at-trailing_zeros w16 rest some (rw is (omega (arith, div-le_self q (2 ^ from))))

    abbrev at : ℕ
    at = trailing_zeros w16 rest

    there : member q (from + at) ≡ true
    unfolding member
    there = sym (member-rest at) ∙ eq-eqb (bit_at rest at) 1 low.1

    not_below : (i : ℕ) → i < at → member rest i ≡ false
    unfolding member
    not_below i h = rw (low.2 i h)

    pub next-place : from + at < places
    next-place = member-station places q (from + at) set there

    lowest : lowest_from q from ≡ from + at
    lowest = lowest-only q from (from + at) (omega arith) next-place there (λ j h l. distance j h ∙ not_below (j - from) (omega arith))

    pub some-size : 0 < size rest
    some-size = omega (arith, size-rest, from_lowest q from (rw lowest next-place))

    pub next_some : ◌≡◌ {A = NextMember} (record { member = from + at; above = size rest - 1 }) (next_from q from)
    unfolding next_from
    next_some =
        let above : size rest - 1 ≡ members_above q (from + at) = omega (arith, size-rest, from_lowest q from (rw lowest next-place), ap (members_above q) lowest) in
        rw (lowest, above)

-- what the step to the next member answers
module _ (q i : ℕ) (next : NextMember) (found : next ≡ next_from q i) where
  pub next-member : next.member ≡ lowest_from q i
  unfolding next_from
  next-member = ap (λ (x : NextMember). x.member) found

  pub next-above : next.above ≡ members_above q next.member
  unfolding next_from
  next-above = ap (λ (x : NextMember). x.above) found ∙ ap (members_above q) (sym next-member)

  pub next-few : next.above ≤ places
  next-few = omega (arith, next-above, from_le q (suc next.member))
