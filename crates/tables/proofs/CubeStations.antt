-- The number of stations of a cube, a^(k + 1), as the code works it out: by a power that is none where it does not fit its type.
-- Assumes nothing.
use Rattle.std.proofs.Common.{◌≡◌, ℕ, ◌+◌, ◌*◌, ◌/◌, ◌^◌, ◌≤◌, ◌<◌, zero, suc, true, false, refl, sym, ap, ◌∙◌, arith, add-one}
use Rattle.std.specs.Prelude.{Option, Some, None, not, unwrap_or}
use Rattle.std.specs.Option.{SomeIff}
use mathlib.Core.Logic.{by_cases}
use native.Mathlib.Decide.{dec_le}
use native.Mathlib.Nat.{pow-zero, pow-suc, pow-le-pow_right, one-le-pow, div-lt_iff_lt-mul}
use borrow.Author.Tests.{le-leb, lt-leb, le-ltb, lt-ltb, ne_eqb}
use Rattle.lists.proofs.Tests.{clash}
use Rattle.quorum.specs.Limits.{most_stations, up_to}
use Rattle.tables.specs.Cube.{cube_stations, no_cube}

-- 0 is 0, and 1 is 1, to any power but 0
one_power : (k : ℕ) → 1 ^ k ≡ 1
one_power zero = pow-zero 1
one_power (suc k) = pow-suc 1 k ∙ omega (arith, one_power k)

pub small_power : (a k : ℕ) → a < 2 → a ≡ cube_stations a k
small_power zero k h = rw (add-one k) (sym (pow-suc 0 k ∙ omega arith))
small_power (suc zero) k h = sym (one_power (k + 1))
small_power (suc (suc a)) k h = absurd (omega arith)

-- one factor more, and one that makes it too many
pub next_power : (a i n : ℕ) → n ≡ a ^ i → n * a ≡ a ^ (i + 1)
next_power a i n e = rw (add-one i) (ap (λ (x : ℕ). x * a) e ∙ sym (pow-suc a i))

pub power_large : (a k i n : ℕ) → 0 < a → i ≤ k → n ≡ a ^ i → most_stations / a < n → most_stations < cube_stations a k
power_large a k i n some h e l =
    let over : most_stations < n * a = (div-lt_iff_lt-mul {x = most_stations} {y = n} some).0 l in
    omega (arith, next_power a i n e, pow-le-pow_right some {i = i + 1} {j = k + 1} (omega arith))

-- there is no cube exactly where the stations are not 1 to 12
pub no_cube-up_to : (a k : ℕ) → no_cube a k ≡ not (up_to most_stations (cube_stations a k))
no_cube-up_to zero k =
    let none : cube_stations 0 k ≡ 0 = rw add-one (pow-suc 0 k ∙ omega arith) in
    rw none
no_cube-up_to (suc a) k =
    let n : ℕ = cube_stations (suc a) k in
    let some : 1 ≤ n = one-le-pow (k + 1) (suc a) (omega arith) in
    by_cases (dec_le n most_stations)
    (λ (few : n ≤ most_stations). rw (ne_eqb (suc a) 0 (λ z. omega arith), le-ltb most_stations n few, le-leb 1 n some, le-leb n most_stations few))
    (λ (many : ¬ (n ≤ most_stations)). rw (ne_eqb (suc a) 0 (λ z. omega arith), lt-ltb most_stations n (omega arith), le-leb 1 n some, lt-leb n most_stations (omega arith)))

up_to_many : (n : ℕ) → most_stations < n → up_to most_stations n ≡ false
up_to_many n h = rw (lt-leb n most_stations h, le-leb 1 n (omega arith))

module _ (a k : ℕ) where
  -- what the code takes for the stations are so many, or both are too many or none
  worked_out : (power : Option ℕ) → SomeIff power (cube_stations a k < 2 ^ 64) (cube_stations a k)
      → (up_to most_stations (unwrap_or power 0) ≡ up_to most_stations (cube_stations a k))
      × (up_to most_stations (unwrap_or power 0) ≡ true → unwrap_or power 0 ≡ cube_stations a k)
  worked_out (Some n) h = (ap (up_to most_stations) h.1, λ e. h.1)
  worked_out None h =
      let large : most_stations < cube_stations a k = omega arith in
      (sym (up_to_many (cube_stations a k) large), λ e. absurd (clash e refl))

  pub cube_refused : (power : Option ℕ) → up_to most_stations (unwrap_or power 0) ≡ false → SomeIff power (cube_stations a k < 2 ^ 64) (cube_stations a k)
      → no_cube a k ≡ true
  cube_refused power e h = no_cube-up_to a k ∙ ap not (sym (worked_out power h).0 ∙ e)

  pub cube_allowed : (power : Option ℕ) → up_to most_stations (unwrap_or power 0) ≡ true → SomeIff power (cube_stations a k < 2 ^ 64) (cube_stations a k)
      → no_cube a k ≡ false
  cube_allowed power e h = no_cube-up_to a k ∙ ap not (sym (worked_out power h).0 ∙ e)

  pub cube_made : (power : Option ℕ) → up_to most_stations (unwrap_or power 0) ≡ true → SomeIff power (cube_stations a k < 2 ^ 64) (cube_stations a k)
      → unwrap_or power 0 ≡ cube_stations a k
  cube_made power e h = (worked_out power h).1 e

-- what the test of the stations says, of a power that fits or does not
pub ruleset stations_tested = (cube_refused, cube_allowed, cube_made)
