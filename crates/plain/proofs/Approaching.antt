-- The members of a quorum, approached from the lowest up.
-- Assumes nothing.
use mathlib.Core.Bool.{true, false}
use mathlib.Core.List.{List}
use mathlib.Core.Logic.{by_cases}
use mathlib.Core.Path.{◌≡◌, refl}
use Prim.Native.Nat.{ℕ, suc, ◌≤◌, ◌<◌, ◌^◌}
use native.Mathlib.Decide.{dec_lt}
use native.Mathlib.Omega.{arith}
use lib.ListN.{length}
use borrow.Author.Tests.{lt-ltb, le-ltb}
use Rattle.lists.proofs.Tests.{clash}
use Rattle.stations.specs.Member.{member}
use Rattle.stations.specs.Sets.{places, lowest_from}
use Rattle.stations.proofs.Lowest.{lowest_from_lem}
use Rattle.stations.proofs.Members.{member_below, member-station, some-member}
use Rattle.quorum.specs.Family.{quorum}
use Rattle.quorum.specs.Limits.{broken_limit}
use Rattle.quorum.proofs.Promises.{Limits, limits_kept}
use Rattle.units.specs.Units.{asked_with}
use Rattle.units.specs.declared.Units.{Units}
use Rattle.plain.specs.Down.{Taken, onward, taken, left, made_of}
use Rattle.plain.specs.declared.Message.{Message}
use Rattle.plain.specs.declared.Message.TheVariants.{Request, Release, Grant, Withdraw, Gone}
use Rattle.plain.specs.declared.Phase.{Phase}
use Rattle.plain.specs.declared.Phase.TheVariants.{Idle, Collecting, Holding, Withdrawing}

-- what a station makes of any message: nothing, or what it makes of a GRANT or of a GONE
pub made_as : (P : Taken → Type 0) (table : List ℕ) (j : ℕ) (p : Phase) → P Taken.drops → P (taken table j p) → P (left p) → (m : Message) → P (made_of table j p m)
made_as P table j p drops grant gone (Request h) = drops
made_as P table j p drops grant gone Release = drops
made_as P table j p drops grant gone Withdraw = drops
made_as P table j p drops grant gone Grant = grant
made_as P table j p drops grant gone Gone = gone

-- only a withdrawing station makes anything of a GONE
pub left_as : (P : Taken → Type 0) (p : Phase) → P Taken.drops → (p ≡ Withdrawing → P Taken.idles) → P (left p)
unfolding left
left_as P Idle drops idles = drops
left_as P (Collecting q h m) drops idles = drops
left_as P (Holding q h) drops idles = drops
left_as P Withdrawing drops idles = idles refl

-- m is the lowest member from i on of a quorum of n stations
pub record Lowest_member (n q i m : ℕ) : Type 0 where
  pub station : m < n
  pub place : m < places
  pub from : i ≤ m
  pub belongs : member q m ≡ true
  pub before : (j : ℕ) → i ≤ j → j < m → member q j ≡ false

-- every station has a place in a set
pub station_place : (n : ℕ) (stock : Units) (table : List ℕ) → broken_limit n (asked_with stock) table ≡ 0 → n < places
station_place n stock table kept = omega (arith, (limits_kept n (asked_with stock) table kept).stations.1)

module _ (n : ℕ) (stock : Units) (table : List ℕ) (kept : broken_limit n (asked_with stock) table ≡ 0) (p : ℕ) (exists : p < length table) where
  limits : Limits n (asked_with stock) table
  limits = limits_kept n (asked_with stock) table kept

  small : quorum table p < 2 ^ n
  small = (limits.members p exists).1

  -- there is a member from i on, or none
  pub next-member : (i : ℕ) → lowest_from (quorum table p) i < places → Lowest_member n (quorum table p) i (lowest_from (quorum table p) i)
  next-member i h =
      let l = lowest_from_lem (quorum table p) i in
      let (from, belongs) = l.found h in
      record {
        station = member-station n (quorum table p) (lowest_from (quorum table p) i) small belongs;
        place = h;
        from = from;
        belongs = belongs;
        before = l.before;
      }

  pub no_member : (i : ℕ) → (lowest_from (quorum table p) i < places → ⊥) → (j : ℕ) → i ≤ j → member (quorum table p) j ≡ false
  no_member i h j from =
      let l = lowest_from_lem (quorum table p) i in
      by_cases (dec_lt j places) (λ (b : j < places). l.before j from (omega arith))
      (λ (b : ¬ (j < places)). member_below n (quorum table p) j small (omega (arith, station_place n stock table kept)))

  -- no quorum is empty, so there is a lowest member of all
  pub first_member : Lowest_member n (quorum table p) 0 (lowest_from (quorum table p) 0)
  first_member =
      next-member 0
      (by_cases (dec_lt (lowest_from (quorum table p) 0) places) (λ h. h)
      (λ (none : ¬ (lowest_from (quorum table p) 0 < places)).
      let (i, m) = some-member (quorum table p) (limits.members p exists).0 in
      absurd (clash m (no_member 0 none i (omega arith)))))

  -- a station that collects from j and takes its GRANT asks the lowest member above j, or there is none and it holds
  pub onward_as : (P : Taken → Type 0) (h : Units) (j : ℕ)
      → (Lowest_member n (quorum table p) (suc j) (lowest_from (quorum table p) (suc j)) → P (Taken.asks p h (lowest_from (quorum table p) (suc j))))
      → ((lowest_from (quorum table p) (suc j) < places → ⊥) → ((i : ℕ) → suc j ≤ i → member (quorum table p) i ≡ false) → P (Taken.holds p h))
      → P (onward table p h j)
  unfolding onward
  onward_as P h j asks holds =
      by_cases (dec_lt (lowest_from (quorum table p) (suc j)) places)
      (λ (l : lowest_from (quorum table p) (suc j) < places). rw (lt-ltb (lowest_from (quorum table p) (suc j)) places l) (asks (next-member (suc j) l)))
      (λ (l : ¬ (lowest_from (quorum table p) (suc j) < places)).
      rw (le-ltb (lowest_from (quorum table p) (suc j)) places (omega arith)) (holds l (no_member (suc j) l)))
