-- A uniform table is accepted for its k: k + 1 of its sets leave out fewer stations than there are, so some station is in all of them;
-- and of two different sets of one size neither lies within the other.
-- Assumes nothing.
use mathlib.Core.List.{List}
use mathlib.Core.Logic.{⊎_elim, by_cases}
use mathlib.Core.Path.{◌≡◌, refl, sym, ap, ◌∙◌}
use Prim.Native.Nat.{ℕ, ◌+◌, ◌-◌, ◌*◌, ◌/◌, ◌≤◌, ◌<◌}
use native.Mathlib.Decide.{ℕ_discrete, dec_lt}
use native.Mathlib.Nat.{div-add-mod', mod-lt, div-lt_iff_lt-mul}
use native.Mathlib.Omega.{arith}
use lib.Bits.{bit_and}
use lib.ListN.{length}
use borrow.Author.Tests.{ltb-false}
use Rattle.lists.proofs.Broken.{passes_kept}
use Rattle.stations.specs.Sets.{everyone, count_below}
use Rattle.stations.specs.Sizes.{sets_of, choose}
use Rattle.stations.proofs.Choosing.{choose-some}
use Rattle.stations.proofs.Counts.{count_and, count_everyone, count_none, count_fewer, count_le}
use Rattle.stations.proofs.Members.{within-and}
use Rattle.stations.proofs.SetsOfSize.{sets_length, sets_hold, sets_rise}
use Rattle.quorum.specs.Accepted.{Accepted}
use Rattle.quorum.specs.Arbiter.{Common, LiesWithin}
use Rattle.quorum.specs.Family.{quorum, common_within, common_part, Numbers}
use Rattle.quorum.specs.Limits.{most_stations, most_units, most_quorums}
use Rattle.quorum.proofs.Promises.{arbiter_accepted, common-or_empty, Limits, kept_limits, up_to_lem}
use Rattle.tables.specs.Uniform.{uniform_size, uniform_table, uniform_tests, uniform_refusal}

-- ---- the size

-- the size is above k × n / (k + 1), and at most n
pub size_above : (n k : ℕ) → k * n < uniform_size n k * (k + 1)
unfolding uniform_size
size_above n k = let some : 0 < k + 1 = omega arith in omega (arith, div-add-mod' (k * n) (k + 1), mod-lt (k * n) some)

pub size-le : (n k : ℕ) → 1 ≤ n → uniform_size n k ≤ n
unfolding uniform_size
size-le n k h =
    let some : 0 < k + 1 = omega arith in
    let below : k * n / (k + 1) < n = (div-lt_iff_lt-mul {x = k * n} {y = n} some).1 (omega arith) in
    omega arith

-- k + 1 sets of that size leave out fewer than n stations together
pub size_leaves : (n k : ℕ) → 1 ≤ n → (k + 1) * (n - uniform_size n k) < n
size_leaves n k h =
    let s = uniform_size n k in
    let parts : s + (n - s) ≡ n = omega (arith, size-le n k h) in
    omega (arith, size_above n k, ap (λ (x : ℕ). x * (k + 1)) parts)

-- ---- sets of s of n stations

module _ (n s : ℕ) where
  -- each quorum of a list takes away at most the n - s stations that it leaves out
  left : (m : ℕ) (f : List ℕ) → Numbers (length (sets_of n s)) f
      → count_below m n ≤ count_below (common_within (sets_of n s) m f) n + length f * (n - s)
  unfolding common_within
  left m f Numbers.none = omega arith
  left m f (Numbers.and {p} {f = g} lt rest) =
      let q = quorum (sets_of n s) p in
      omega (arith, left (bit_and m q) g rest, count_and m q n, (sets_hold n s p lt).1, count_le q n)

  -- where together they leave out fewer than n, a station is left
  pub sets_meet : (f : List ℕ) → Numbers (length (sets_of n s)) f → length f * (n - s) < n → Common n (sets_of n s) f
  sets_meet f numbers few =
      ⊎_elim (λ c. c)
      (λ (e : common_part n (sets_of n s) f ≡ 0). absurd (omega (arith, left (everyone n) f numbers, count_everyone n, ap (λ (q : ℕ). count_below q n) e, count_none n)))
      (common-or_empty n (sets_of n s) f)

  -- two places with sets of which one lies within the other are one place
  pub sets_apart : (p q : ℕ) → p < length (sets_of n s) → q < length (sets_of n s) → (p ≡ q → ⊥) → LiesWithin (sets_of n s) p q → ⊥
  sets_apart p q hp hq differ within =
      by_cases (ℕ_discrete (bit_and b a) b) (λ same. differ (one_place (sym inner ∙ same)))
      (λ less. omega (arith, count_fewer b a n (sets_hold n s q hq).0 less, ap (λ (x : ℕ). count_below x n) inner, (sets_hold n s p hp).1, (sets_hold n s q hq).1))
    where
      a : ℕ
      a = quorum (sets_of n s) p

      b : ℕ
      b = quorum (sets_of n s) q

      inner : bit_and b a ≡ a
      inner = within-and b a within

      one_place : a ≡ b → p ≡ q
      one_place e =
          by_cases (dec_lt p q) (λ (l : p < q). absurd (omega (arith, e, sets_rise n s p q l hq)))
          (λ (l : ¬ (p < q)). by_cases (dec_lt q p) (λ (g : q < p). absurd (omega (arith, e, sets_rise n s q p g hp))) (λ (g : ¬ (q < p)). omega arith))

-- ---- the uniform table

-- as many quorums as there are sets of that size; each once, by `sets_hold`, `sets_rise` and `sets_all`
pub uniform_length : (n k : ℕ) → length (uniform_table n k) ≡ choose n (uniform_size n k)
unfolding uniform_table
uniform_length n k = sets_length n (uniform_size n k)

-- what its tests leave
pub record UniformKept (n k room : ℕ) : Type 0 where
  pub stations : (1 ≤ n) × (n ≤ most_stations)
  pub stock : (1 ≤ k) × (k ≤ most_units)
  pub few : length (uniform_table n k) ≤ most_quorums
  pub enough : length (uniform_table n k) ≤ room

pub uniform_kept : (n k room : ℕ) → uniform_refusal n k room ≡ 0 → UniformKept n k room
unfolding uniform_refusal
uniform_kept n k room e =
    let (one, (two, (few, (enough, end)))) = passes_kept (uniform_tests n k room) refl e in
    record {
      stations = up_to_lem most_stations n one;
      stock = up_to_lem most_units k two;
      few = ltb-false most_quorums (length (uniform_table n k)) few;
      enough = ltb-false room (length (uniform_table n k)) enough;
    }

-- every uniform table that is written is accepted for its k
pub uniform_accepted : (n k room : ℕ) → uniform_refusal n k room ≡ 0 → Accepted n k (uniform_table n k)
unfolding uniform_table uniform_size
uniform_accepted n k room e =
    arbiter_accepted n k (uniform_table n k) (kept_limits n k (uniform_table n k) limits)
    (record {
      intersection = λ f numbers size. sets_meet n s f numbers (rw size (size_leaves n k kept.stations.0));
      minimality = sets_apart n s;
    })
  where
    s : ℕ
    s = uniform_size n k

    kept : UniformKept n k room
    kept = uniform_kept n k room e

    limits : Limits n k (uniform_table n k)
    limits =
        record {
          stations = kept.stations;
          stock = kept.stock;
          quorums = (omega (arith, uniform_length n k, choose-some n s (size-le n k kept.stations.0)), kept.few);
          members = λ p h. ((λ z. omega (arith, (sets_hold n s p h).1, ap (λ (q : ℕ). count_below q n) z, count_none n)), (sets_hold n s p h).0);
        }
