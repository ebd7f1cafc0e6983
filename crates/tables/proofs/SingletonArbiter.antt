-- A singleton is accepted for every k: its one quorum has its one station.
-- Assumes nothing.
use mathlib.Core.Bool.{true, false}
use mathlib.Core.List.{List}
use mathlib.Core.Path.{◌≡◌, refl}
use Prim.Native.Nat.{ℕ, zero, suc, ◌+◌, ◌^◌, ◌≤◌, ◌<◌}
use native.Mathlib.Omega.{arith}
use lib.Pow.{pow_pos, pow-lt}
use borrow.Author.Tests.{leb-false, le-leb, ltb-false}
use Rattle.lists.proofs.Broken.{passes_kept}
use Rattle.lists.proofs.Tests.{clash, and_both}
use Rattle.std.proofs.lemmas.Bool.{false_from_ne_true}
use Rattle.stations.proofs.Built.{member-only}
use Rattle.quorum.specs.Accepted.{Accepted}
use Rattle.quorum.specs.Arbiter.{InAll}
use Rattle.quorum.specs.Family.{quorum, Numbers}
use Rattle.quorum.specs.Limits.{most_stations, most_units}
use Rattle.quorum.specs.Nested.{nested}
use Rattle.quorum.specs.Width.{width, lacks_common}
use Rattle.quorum.proofs.Promises.{arbiter_accepted, Limits, kept_limits, up_to_lem, lacks_width, width-le-n}
use Rattle.tables.specs.Singleton.{singleton_table, singleton_tests, singleton_refusal}

-- what its tests leave
pub record SingletonKept (n station room : ℕ) : Type 0 where
  pub stations : (1 ≤ n) × (n ≤ most_stations)
  pub below : station < n
  pub enough : 1 ≤ room

pub singleton_kept : (n station room : ℕ) → singleton_refusal n station room ≡ 0 → SingletonKept n station room
unfolding singleton_refusal singleton_table
singleton_kept n station room e =
    let (one, (eight, (few, (enough, end)))) = passes_kept (singleton_tests n station room) refl e in
    record { stations = up_to_lem most_stations n one; below = leb-false n station eight; enough = ltb-false room 1 enough }

-- the station is in every quorum of every list
in_all : (station : ℕ) (f : List ℕ) → Numbers 1 f → InAll (singleton_table station) station f
unfolding singleton_table
in_all station f Numbers.none = InAll.none
in_all station f (Numbers.and {p} lt rest) =
    let first : p ≡ 0 = omega arith in
    InAll.and {p = p} (rw first (member-only station)) (in_all station _ rest)

-- every singleton that is written is accepted for every k within limit 2
pub singleton_accepted : (n station room k : ℕ) → singleton_refusal n station room ≡ 0 → (1 ≤ k) × (k ≤ most_units) → Accepted n k (singleton_table station)
unfolding singleton_table
singleton_accepted n station room k e stock =
    arbiter_accepted n k (singleton_table station) (kept_limits n k (singleton_table station) limits)
    (record {
      intersection = λ f numbers size. record { station = station; below = kept.below; in_all = in_all station f numbers };
      minimality = λ p q hp hq apart within. apart (omega arith);
    })
  where
    kept : SingletonKept n station room
    kept = singleton_kept n station room e

    only_one : (p : ℕ) → p < 1 → (quorum (singleton_table station) p ≡ 0 → ⊥) × (quorum (singleton_table station) p < 2 ^ n)
    only_one zero h = ((λ z. omega (arith, pow_pos station)), pow-lt kept.below)
    only_one (suc p) h = absurd (omega arith)

    limits : Limits n k (singleton_table station)
    limits = record { stations = kept.stations; stock = stock; quorums = (omega arith, omega arith); members = only_one }

-- "Every table written passes 6 and 7 for its k, a singleton for every k": for every number k, within limit 2 or not, since a width is far below
-- the largest stock
pub singleton_passes : (n station room k : ℕ) → singleton_refusal n station room ≡ 0
    → (lacks_common n k (singleton_table station) ≡ false) × (nested (singleton_table station) ≡ false)
unfolding lacks_common
singleton_passes n station room k e = (false_from_ne_true (lacks_common n k (singleton_table station)) lacks_none, most.not-nested)
  where
    most : Accepted n most_units (singleton_table station)
    most = singleton_accepted n station room most_units e (omega arith, omega arith)

    lacks_none : lacks_common n k (singleton_table station) ≡ true → ⊥
    lacks_none t =
        let stations = (singleton_kept n station room e).stations in
        let w : ℕ = width n (singleton_table station) in
        let (two, more) = lacks_width n k (singleton_table station) t in
        clash (and_both (le-leb 2 w two) (le-leb w (most_units + 1) (omega (arith, width-le-n n (singleton_table station) stations.0, stations.1)))) most.common
