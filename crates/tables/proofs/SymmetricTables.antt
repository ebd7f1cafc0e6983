-- Which ready-made tables are symmetric, in the sense of Definition 4.3 of RR-2523: every uniform table and every cube that is written, and of the
-- singletons those of one station alone.
-- Assumes nothing.
use mathlib.Core.Bool.{Bool, true, false, cond}
use mathlib.Core.List.{[], ◌∷◌}
use mathlib.Core.Logic.{◌↔◌, by_cases}
use mathlib.Core.Path.{◌≡◌, refl, sym, ap, ◌∙◌}
use Prim.Native.Nat.{ℕ, zero, suc, ◌+◌, ◌-◌, ◌*◌, ◌/◌, ◌^◌, ◌≤◌, ◌<◌}
use native.Mathlib.Decide.{ℕ_discrete}
use native.Mathlib.Nat.{add-zero}
use native.Mathlib.Numerals.{add-one}
use native.Mathlib.Omega.{arith}
use lib.Dec.{eqb}
use Rattle.lists.specs.Counting.{how_many}
use Rattle.lists.proofs.Counting.{many_same}
use Rattle.lists.proofs.Searches.{some_same}
use Rattle.lists.proofs.Tests.{eqb_sym}
use Rattle.stations.specs.Member.{member}
use Rattle.stations.specs.Sets.{places, count_below, size}
use Rattle.stations.specs.Sizes.{sets_of, choose}
use Rattle.stations.proofs.Built.{count_within, count_set, member-set, member-only, member_under, set_below}
use Rattle.stations.proofs.Members.{member_below, member-zero}
use Rattle.stations.proofs.SetsOfSize.{sets_hold}
use Rattle.stations.proofs.SetsWith.{sets_with}
use Rattle.quorum.specs.Even.{belongs, even}
use Rattle.quorum.specs.Family.{quorum}
use Rattle.quorum.specs.Symmetric.{Symmetric}
use Rattle.quorum.proofs.Promises.{symmetric_even, even_iff, belongs-numbers, belongs_listed}
use Rattle.tables.specs.Cube.{cube_stations, coordinate, agree, cube_quorum, cube_table, cube_refusal}
use Rattle.tables.specs.Singleton.{singleton_table, singleton_refusal}
use Rattle.tables.specs.Uniform.{uniform_size, uniform_table, uniform_refusal}
use Rattle.tables.proofs.CubeArbiter.{cube_at, cube_length, CubeKept, cube_kept}
use Rattle.tables.proofs.CubeSize.{cube_size}
use Rattle.tables.proofs.SingletonArbiter.{SingletonKept, singleton_kept}
use Rattle.tables.proofs.UniformArbiter.{uniform_kept}

-- ---- uniform tables

-- all sets of s + 1 of n + 1 stations
module _ (n s : ℕ) where
  shares : (i : ℕ) → i < suc n → belongs (sets_of (suc n) (suc s)) i ≡ choose n s
  unfolding sets_of
  shares i h = belongs_listed (λ q. eqb (count_below q (suc n)) (suc s)) (2 ^ suc n) i ∙ sets_with n s i h

  sets_symmetric : suc n ≤ places → Symmetric (suc n) (sets_of (suc n) (suc s)) (choose n s) (suc s)
  sets_symmetric few =
      record {
        effort = λ i h. sym (belongs-numbers (sets_of (suc n) (suc s)) i) ∙ shares i h;
        sizes = λ p h. let (below, members) = sets_hold (suc n) (suc s) p h in
            count_within (suc n) places (quorum (sets_of (suc n) (suc s)) p) below (omega arith) ∙ members;
      }

-- a set that a station is in has k × n / (k + 1) of the n - 1 others besides
pub uniform_symmetric : (n k room : ℕ) → uniform_refusal n k room ≡ 0 → Symmetric n (uniform_table n k) (choose (n - 1) (k * n / (k + 1))) (uniform_size n k)
unfolding uniform_table uniform_size
uniform_symmetric n k room e =
    let stations = (uniform_kept n k room e).stations in
    let others : suc (n - 1) ≡ n = omega arith in
    rw (add-one (k * n / (k + 1))) (rw others at (sets_symmetric (n - 1) (k * n / (k + 1)) (omega arith)))

pub uniform_even : (n k room : ℕ) → uniform_refusal n k room ≡ 0 → even n (uniform_table n k) ≡ 1
uniform_even n k room e = symmetric_even n (uniform_table n k) _ _ (uniform_symmetric n k room e)

-- ---- cubes

-- stations agree with each other
agree_back : (a d p q : ℕ) → agree a d p q ≡ agree a d q p
unfolding agree
agree_back a d p q =
    some_same (λ i. eqb (coordinate a i p) (coordinate a i q)) (λ i. eqb (coordinate a i q) (coordinate a i p)) d (λ i h. eqb_sym (coordinate a i p) (coordinate a i q))

-- so a station is in as many quorums as its own has members
pub cube_symmetric : (a k room : ℕ) → cube_refusal a k room ≡ 0
    → Symmetric (cube_stations a k) (cube_table a k) (cube_stations a k - (a - 1) ^ (k + 1)) (cube_stations a k - (a - 1) ^ (k + 1))
unfolding cube_quorum
cube_symmetric a k room e =
    record {
      effort = λ i h. ap (how_many (λ p. member (quorum (cube_table a k) p) i)) (cube_length a k)
          ∙ many_same _ (agree a (k + 1) i) n (λ p l. ap (λ (q : ℕ). member q i) (cube_at a k p l) ∙ member-set (agree a (k + 1) p) n i h ∙ agree_back a (k + 1) p i)
          ∙ sym (count_set (agree a (k + 1) i) n) ∙ cube_size a k i kept.some;
      sizes = λ p h. let l : p < n = omega (arith, cube_length a k) in
          ap size (cube_at a k p l) ∙ count_within n places (cube_quorum a k p) (set_below (agree a (k + 1) p) n) (omega (arith, kept.stations)) ∙ cube_size a k p kept.some;
    }
  where
    kept : CubeKept a k room
    kept = cube_kept a k room e

    n : ℕ
    n = cube_stations a k

pub cube_even : (a k room : ℕ) → cube_refusal a k room ≡ 0 → even (cube_stations a k) (cube_table a k) ≡ 1
cube_even a k room e = symmetric_even (cube_stations a k) (cube_table a k) _ _ (cube_symmetric a k room e)

-- ---- singletons

-- one quorum, and whether a station is in it
one-quorum : (q i : ℕ) (b : Bool) → member q i ≡ b → how_many (λ p. member (quorum (q ∷ []) p) i) 1 ≡ cond b 1 0
unfolding how_many
one-quorum q i b m = rw m (add-zero (cond b 1 0))

one-member : size (2 ^ 0) ≡ 1
unfolding how_many member
one-member = refl

-- of two stations or more one is outside
outside : (n station : ℕ) → 2 ≤ n → (i : ℕ) × (i < n) × (member (2 ^ station) i ≡ false)
outside n zero two = (1, omega arith, member_below 1 (2 ^ 0) 1 (omega arith) (omega arith))
outside n (suc station) two =
    (0, omega arith, ap (λ (q : ℕ). member q 0) (sym (add-zero (2 ^ suc station))) ∙ member_under (suc station) 0 0 (omega arith) ∙ member-zero 0)

pub singleton_even : (n station room : ℕ) → singleton_refusal n station room ≡ 0 → (even n (singleton_table station) ≡ 1) ↔ (n ≡ 1)
unfolding singleton_table
singleton_even n station room e = (alone, only)
  where
    kept : SingletonKept n station room
    kept = singleton_kept n station room e

    alone : even n (singleton_table station) ≡ 1 → n ≡ 1
    alone one =
        let (β, γ, s) = (even_iff n (singleton_table station)).0 one in
        by_cases (ℕ_discrete n 1) (λ single. single)
        (λ (more : n ≡ 1 → ⊥).
        let (i, h, out) = outside n station (omega (arith, kept.stations)) in
        absurd (omega (arith, one-quorum (2 ^ station) station true (member-only station), s.effort station kept.below, one-quorum (2 ^ station) i false out, s.effort i h)))

    only : n ≡ 1 → even n (singleton_table station) ≡ 1
    only single =
        let first : station ≡ 0 = omega (arith, kept.below) in
        symmetric_even n (singleton_table station) 1 1
        (record {
          effort = λ i h. let own : i ≡ station = omega arith in one-quorum (2 ^ station) i true (rw own (member-only station));
          sizes = λ p h. let zeroth : p ≡ 0 = omega arith in rw (zeroth, first) one-member;
        })
