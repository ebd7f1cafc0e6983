-- What a state weighs: all that is between stations and arbiters, and what is still to be asked. In every state that calls lead to from a
-- fresh one a station weighs at most 3 × n, and at most n + 4 while it withdraws.
-- Assumes nothing.
use mathlib.Core.Bool.{true, false, cond, ◌&&◌}
use mathlib.Core.List.{List}
use mathlib.Core.Logic.{by_cases, ⊎_elim}
use mathlib.Core.Path.{◌≡◌, refl, ap}
use Prim.Native.Nat.{ℕ, ◌+◌, ◌*◌, ◌≤◌, ◌<◌}
use native.Mathlib.Decide.{ℕ_discrete, dec_lt}
use native.Mathlib.Omega.{arith}
use lib.Dec.{ltb}
use borrow.Author.Tests.{ltb-true, le-ltb}
use Rattle.lists.specs.At.{at}
use Rattle.lists.specs.Counting.{total}
use Rattle.lists.proofs.Tests.{either, clash}
use Rattle.std.proofs.lemmas.Bool.{cases_Bool}
use Rattle.lists.proofs.Totals.{total-le, total_most, total-at}
use Rattle.stations.specs.Member.{member}
use Rattle.quorum.specs.Family.{quorum}
use Rattle.units.specs.declared.Units.{Units}
use Rattle.plain.specs.Arbiter.{units_in}
use Rattle.plain.specs.State.{State}
use Rattle.plain.specs.Withdrawn.{is_withdrawing}
use Rattle.plain.specs.declared.Phase.{Phase}
use Rattle.plain.specs.declared.Phase.TheVariants.{Idle, Collecting, Holding, Withdrawing}
use Rattle.plain.proofs.Invariant.{approaches, Invariant}
use Rattle.plain.proofs.PairSizes.{between, most_between, pair_weight_lem}
use Rattle.plain.proofs.Pairs.{Part}
use Rattle.plain.proofs.Wants.{share, wants, wants_here, wants_below, wants_above}

-- a REQUEST, 2, that a station in this phase has still to send to j: to a member above the one that it approaches
unfoldable pub to_ask : List ℕ → Phase → ℕ → ℕ
to_ask table Idle j = 0
to_ask table (Collecting q h m) j = cond (ltb m j && member (quorum table q) j) 2 0
to_ask table (Holding q h) j = 0
to_ask table Withdrawing j = 0

-- a station and an arbiter; a station and all arbiters; all stations
abbrev pub pair_weight : State → ℕ → ℕ → ℕ
pair_weight st s j = between (st.up s j) (units_in s (st.arbiter j).line) (st.down s j) + to_ask st.table (st.phase s) j

abbrev pub station_weight : State → ℕ → ℕ
station_weight st s = total (pair_weight st s) st.n

abbrev pub weight : State → ℕ
weight st = total (station_weight st) st.n

-- ---- by what the station does

module _ (table : List ℕ) (a : ℕ) where
  share_most : (q : ℕ) (h : Units) (j : ℕ) → most_between (share table q h j) ≤ 1
  unfolding share
  share_most q h j = either (λ p. most_between p ≤ 1) (member (quorum table q) j) (omega arith) (omega arith)

  -- of a station that does not withdraw no arbiter weighs more than 3
  phase_most : (p : Phase) (j : ℕ) → is_withdrawing p ≡ false → most_between (wants table a p j) + to_ask table p j ≤ 3
  unfolding wants to_ask
  phase_most Idle j e = omega arith
  phase_most (Collecting q h m) j e =
      by_cases (ℕ_discrete j m)
      (λ (z : j ≡ m). rw (z, wants_here table a q h m, le-ltb m m (omega arith)) (omega arith))
      (λ (d : j ≡ m → ⊥). by_cases (dec_lt j m)
      (λ (l : j < m). rw (wants_below table a q h m j l, le-ltb m j (omega arith)) (omega (arith, share_most q h j)))
      (λ (l : ¬ (j < m)). rw (wants_above table a q h m j (omega arith)) (either (λ x. 1 + x ≤ 3) (ltb m j && member (quorum table q) j) (omega arith) (omega arith))))
  phase_most (Holding q h) j e = omega (arith, share_most q h j)
  phase_most Withdrawing j e = absurd (clash refl e)

-- ---- in every state that calls lead to

is_withdrawing_lem : (p : Phase) → is_withdrawing p ≡ true → p ≡ Withdrawing
is_withdrawing_lem Idle e = absurd (clash e refl)
is_withdrawing_lem (Collecting q h m) e = absurd (clash e refl)
is_withdrawing_lem (Holding q h) e = absurd (clash e refl)
is_withdrawing_lem Withdrawing e = refl

module _ (st : State) (i : Invariant st) where
  pair_most : (s j : ℕ) → pair_weight st s j ≤ most_between (wants st.table (i.leaving s) (st.phase s) j) + to_ask st.table (st.phase s) j
  pair_most s j = omega (arith, pair_weight_lem (i.pairs s j))

  stays_most : (s : ℕ) → is_withdrawing (st.phase s) ≡ false → station_weight st s ≤ st.n * 3
  stays_most s e = total_most (pair_weight st s) st.n 3 (λ j l. omega (arith, pair_most s j, phase_most st.table (i.leaving s) (st.phase s) j e))

  -- of one that withdraws only the arbiter that it is leaving weighs more than 1
  leaves_most : (s : ℕ) → is_withdrawing (st.phase s) ≡ true → station_weight st s ≤ st.n + 4
  unfolding wants to_ask approaches at
  leaves_most s e =
      let p = is_withdrawing_lem (st.phase s) e in
      let a = i.leaving s in
      let below : a < st.n = ltb-true a st.n (rw p at (i.members s)) in
      let each = total-le (pair_weight st s) (λ j. most_between (at (λ x. Part.nothing) a Part.leaves j)) st.n (λ j l.
      let none : to_ask st.table (st.phase s) j ≡ 0 = rw p in
      let same : wants st.table a (st.phase s) j ≡ at (λ x. Part.nothing) a Part.leaves j = rw p in
      omega (arith, pair_most s j, ap most_between same)) in
      omega (arith, each, total-at most_between (λ x. Part.nothing) a Part.leaves st.n below, total_most (λ x. 1) st.n 1 (λ j l. omega arith))

  pub weight_most : (most : ℕ) → st.n * 3 ≤ most → st.n + 4 ≤ most → weight st ≤ st.n * most
  weight_most most stays leaves =
      total_most (station_weight st) st.n most
      (λ s l. ⊎_elim (λ (t : is_withdrawing (st.phase s) ≡ true). omega (arith, leaves_most s t)) (λ (f : is_withdrawing (st.phase s) ≡ false). omega (arith, stays_most s f))
      (cases_Bool (is_withdrawing (st.phase s))))
