-- What the limits 1 to 4 say of a table, in numbers.
-- Assumes nothing.
use mathlib.Core.Bool.{true, false, not}
use mathlib.Core.List.{List, [], ◌∷◌}
use mathlib.Core.Logic.{by_cases}
use mathlib.Core.Path.{◌≡◌, refl, sym, ap, ◌∙◌}
use Prim.Native.Nat.{◌*◌, ◌/◌, ◌+◌, ℕ, zero, suc, ◌≤◌, ◌<◌, ◌^◌}
use native.Mathlib.Decide.{dec_le}
use native.Mathlib.Nat.{div-add-mod', mod-lt, zero-mul}
use native.Mathlib.Omega.{arith}
use lib.Dec.{leb, eqb}
use lib.ListN.{length}
use lib.Pow.{pow_pos}
use borrow.Author.Tests.{leb-true, leb-false, eqb-false, not-false, le-leb, lt-leb, ne_eqb}
use Rattle.lists.specs.Search.{any}
use Rattle.lists.proofs.Broken.{Kept, passes_kept, broken_most}
use Rattle.lists.proofs.Tests.{clash, and_left, and_right, and_both}
use Rattle.std.proofs.lemmas.Bool.{or_parts}
use Rattle.stations.specs.Member.{member}
use Rattle.stations.proofs.Members.{member_below, member_shift, some-member}
use Rattle.quorum.specs.Family.{quorum}
use Rattle.quorum.specs.Limits.{limit_tests, broken_limit, up_to, out_of_place, most_stations, most_units, most_quorums}

-- the table keeps the limits 1 to 4
pub record Limits (n k : ℕ) (table : List ℕ) : Type 0 where
  pub stations : (1 ≤ n) × (n ≤ most_stations)
  pub stock : (1 ≤ k) × (k ≤ most_units)
  pub quorums : (1 ≤ length table) × (length table ≤ most_quorums)
  pub members : (p : ℕ) → p < length table → (quorum table p ≡ 0 → ⊥) × (quorum table p < 2 ^ n)

-- a number names a station from n on exactly when it is 2^n or more
pub names_from_lem : (n q i : ℕ) → n ≤ i → member q i ≡ true → 2 ^ n ≤ q
names_from_lem n q i h m =
    by_cases (dec_le (2 ^ n) q) (λ le. le) (λ (small : ¬ (2 ^ n ≤ q)). absurd (clash m (member_below n q i (omega arith) h)))

pub names_some : (n q : ℕ) → 2 ^ n ≤ q → (i : ℕ) × (n ≤ i) × (member q i ≡ true)
names_some n q h =
    let some : q / 2 ^ n ≡ 0 → ⊥ = λ e. omega (arith, div-add-mod' q (2 ^ n), mod-lt q (pow_pos n), ap (λ (x : ℕ). x * 2 ^ n) e, zero-mul (2 ^ n)) in
    let (i, m) = some-member (q / 2 ^ n) some in
    (n + i, omega arith, sym (member_shift q n i) ∙ m)

-- ---- from the tests to the numbers

pub up_to_lem : (most x : ℕ) → not (up_to most x) ≡ false → (1 ≤ x) × (x ≤ most)
up_to_lem most x e =
    let t = not-false (up_to most x) e in
    (leb-true 1 x (and_left (leb 1 x) (leb x most) t), leb-true x most (and_right (leb 1 x) (leb x most) t))

in_place : (n : ℕ) (table : List ℕ) → any (out_of_place n) table ≡ false → (p : ℕ) → p < length table → (quorum table p ≡ 0 → ⊥) × (quorum table p < 2 ^ n)
in_place n [] e p h = absurd (omega arith)
in_place n (q ∷ table) e zero h =
    let (this, rest) = or_parts (out_of_place n q) (any (out_of_place n) table) e in
    let (some, small) = or_parts (eqb q 0) (leb (2 ^ n) q) this in
    (eqb-false q 0 some, leb-false (2 ^ n) q small)
in_place n (q ∷ table) e (suc p) h = in_place n table (or_parts (out_of_place n q) (any (out_of_place n) table) e).1 p (omega arith)

pub tests_kept : (n k : ℕ) (table : List ℕ) → broken_limit n k table ≡ 0 → Kept (limit_tests n k table)
unfolding broken_limit
tests_kept n k table e = passes_kept (limit_tests n k table) refl e

pub limits_kept : (n k : ℕ) (table : List ℕ) → broken_limit n k table ≡ 0 → Limits n k table
limits_kept n k table e =
    let (one, (two, (three, (four, end)))) = tests_kept n k table e in
    record {
      stations = up_to_lem most_stations n one;
      stock = up_to_lem most_units k two;
      quorums = up_to_lem most_quorums (length table) three;
      members = in_place n table four;
    }

-- ---- and from the numbers to the tests

upper : (most x : ℕ) → (1 ≤ x) × (x ≤ most) → up_to most x ≡ true
upper most x h = and_both (le-leb 1 x h.0) (le-leb x most h.1)

all_in_place : (n : ℕ) (table : List ℕ) → ((p : ℕ) → p < length table → (quorum table p ≡ 0 → ⊥) × (quorum table p < 2 ^ n)) → any (out_of_place n) table ≡ false
all_in_place n [] h = refl
all_in_place n (q ∷ table) h =
    let (some, small) = h 0 (omega arith) in
    rw (ne_eqb q 0 some, lt-leb (2 ^ n) q small) (all_in_place n table (λ p l. h (suc p) (omega arith)))

pub kept_limits : (n k : ℕ) (table : List ℕ) → Limits n k table → broken_limit n k table ≡ 0
unfolding broken_limit
kept_limits n k table l =
    rw (upper most_stations n l.stations, upper most_units k l.stock, upper most_quorums (length table) l.quorums, all_in_place n table l.members)

-- no limit has a larger number
pub limit_most : (n k : ℕ) (table : List ℕ) → broken_limit n k table ≤ 4
unfolding broken_limit
limit_most n k table = broken_most 4 (limit_tests n k table) refl
