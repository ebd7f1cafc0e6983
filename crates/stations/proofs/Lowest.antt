-- The lowest member from a station on is a member, and no member lies between.
-- Assumes nothing.
use mathlib.Core.Bool.{Bool, true, false, cond}
use mathlib.Core.Logic.{by_cases}
use mathlib.Core.Path.{◌≡◌, refl}
use Prim.Native.Nat.{ℕ, zero, suc, ◌+◌, ◌-◌, ◌≤◌, ◌<◌}
use native.Mathlib.Decide.{ℕ_discrete, dec_le}
use native.Mathlib.Numerals.{add-one}
use native.Mathlib.Omega.{arith}
use Rattle.lists.proofs.Tests.{clash}
use Rattle.stations.specs.Member.{member}
use Rattle.stations.specs.Sets.{places, lowest_among, lowest_from}

-- what r is to q and i: no member from i on is below r, and r is a member from i on unless it is 16
pub record Lowest (q i r : ℕ) : Type 0 where
  pub before : (j : ℕ) → i ≤ j → j < r → member q j ≡ false
  pub at_most : r ≤ places
  pub found : r < places → (i ≤ r) × (member q r ≡ true)

none_from : (q i : ℕ) → places ≤ i → Lowest q i places
none_from q i h = record { before = λ j p r. absurd (omega arith); at_most = omega arith; found = λ r. absurd (omega arith) }

here : (q i : ℕ) → i < places → member q i ≡ true → Lowest q i i
here q i h m = record { before = λ j p r. absurd (omega arith); at_most = omega arith; found = λ r. (omega arith, m) }

later : (q i r : ℕ) → member q i ≡ false → Lowest q (suc i) r → Lowest q i r
later q i r m l =
    record {
      before = λ j p h. by_cases (ℕ_discrete j i) (λ (e : j ≡ i). rw e m) (λ (d : j ≡ i → ⊥). l.before j (omega arith) h);
      at_most = l.at_most;
      found = λ h. (omega (arith, (l.found h).0), (l.found h).1);
    }

among : (q i more : ℕ) → i + more ≡ places → Lowest q i (lowest_among q i more)
unfolding lowest_among
among q i zero e = none_from q i (omega arith)
among q i (suc more) e = go (member q i) refl (among q (suc i) more (omega arith))
  where
    go : (b : Bool) → member q i ≡ b → Lowest q (suc i) (lowest_among q (suc i) more) → Lowest q i (cond b i (lowest_among q (suc i) more))
    go true m l = here q i (omega arith) m
    go false m l = later q i (lowest_among q (suc i) more) m l

pub lowest_from_lem : (q i : ℕ) → Lowest q i (lowest_from q i)
unfolding lowest_from lowest_among
lowest_from_lem q i =
    by_cases (dec_le i places)
    (λ (h : i ≤ places). among q i (places - i) (omega arith))
    (λ (h : ¬ (i ≤ places)). let none : places - i ≡ 0 = omega arith in rw none (none_from q i (omega arith)))

-- ---- one station further

pub lowest_end : (q i : ℕ) → places ≤ i → lowest_from q i ≡ places
unfolding lowest_from lowest_among
lowest_end q i h = let none : places - i ≡ 0 = omega arith in rw none

pub lowest-here : (q i : ℕ) → i < places → member q i ≡ true → lowest_from q i ≡ i
unfolding lowest_from lowest_among
lowest-here q i h m = let more : places - i ≡ suc (places - suc i) = omega arith in rw (more, m)

pub lowest_later : (q i : ℕ) → i < places → member q i ≡ false → lowest_from q i ≡ lowest_from q (i + 1)
unfolding lowest_from lowest_among
lowest_later q i h m = let more : places - i ≡ suc (places - suc i) = omega arith in rw (more, m, add-one i)

-- ---- it is the only such station

pub lowest-only : (q i r : ℕ) → i ≤ r → r < places → member q r ≡ true → ((j : ℕ) → i ≤ j → j < r → member q j ≡ false) → lowest_from q i ≡ r
lowest-only q i r from below m none =
    let l = lowest_from_lem q i in
    let x : ℕ = lowest_from q i in
    by_cases (dec_le r x)
    (λ (h : r ≤ x).
    by_cases (dec_le x r) (λ (g : x ≤ r). omega arith) (λ (g : ¬ (x ≤ r)). absurd (clash m (l.before r from (omega arith)))))
    (λ (h : ¬ (r ≤ x)). let f = l.found (omega arith) in absurd (clash f.1 (none x f.0 (omega arith))))

pub lowest-none : (q i : ℕ) → ((j : ℕ) → i ≤ j → member q j ≡ false) → lowest_from q i ≡ places
lowest-none q i none =
    let l = lowest_from_lem q i in
    let x : ℕ = lowest_from q i in
    by_cases (dec_le places x) (λ (h : places ≤ x). let most = l.at_most in omega arith) (λ (h : ¬ (places ≤ x)). let f = l.found (omega arith) in absurd (clash f.1 (none x f.0)))
