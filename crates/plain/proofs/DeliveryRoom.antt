-- A delivery always finds room, in every state that calls lead to: a station has at most one entry in a line, so a line has at most n, and
-- the lanes keep within their limits after the delivery, since the situations of every pair are those of the table.
-- Assumes nothing.
use mathlib.Core.Bool.{true, false}
use mathlib.Core.List.{List, [], ◌∷◌}
use mathlib.Core.Logic.{by_cases}
use mathlib.Core.Path.{◌≡◌, refl}
use Prim.Native.Nat.{ℕ, ◌≤◌, ◌<◌}
use native.Mathlib.Decide.{ℕ_discrete}
use native.Mathlib.Omega.{arith}
use lib.Dec.{eqb, ltb}
use lib.ListN.{length}
use borrow.Author.Tests.{eq-eqb, lt-ltb, le-ltb, ltb-true}
use Rattle.lists.specs.Counting.{total}
use Rattle.lists.specs.Search.{all}
use Rattle.lists.proofs.Changed.{at2-same}
use Rattle.lists.proofs.Searches.{all_append, some_empty}
use Rattle.lists.proofs.Tests.{either, and_left, and_right, and_both}
use Rattle.lists.proofs.Totals.{total_less, total_most}
use Rattle.quorum.proofs.Promises.{limits_kept}
use Rattle.units.specs.Units.{request_in, asked_with}
use Rattle.units.specs.declared.Units.{Units}
use Rattle.plain.specs.Arbiter.{arrived, units_in}
use Rattle.plain.specs.Down.{Taken, taken_at, down_passes, down_passes_of, received_as}
use Rattle.plain.specs.Inner.Passed.{Delivers}
use Rattle.plain.specs.InRange.{goes_up, entry_in}
use Rattle.plain.specs.Lanes.{up_places, down_places, line_places, passes, sent}
use Rattle.plain.specs.State.{Arbiter, State}
use Rattle.plain.specs.Up.{arrived_at, granted_at, up_passes, delivered_of}
use Rattle.plain.specs.declared.Entry.{Entry}
use Rattle.plain.specs.declared.Message.{Message}
use Rattle.plain.specs.declared.Message.TheVariants.{Request, Release, Grant, Withdraw, Gone}
use Rattle.plain.proofs.ArbitersInRange.{arbiter_facts}
use Rattle.plain.proofs.Arriving.{arrived_own, arrived-line}
use Rattle.plain.proofs.Dropping.{without_all}
use Rattle.plain.proofs.Invariant.{Invariant, up-keeps, down-keeps}
use Rattle.plain.proofs.LanesInRange.{keeps-all}
use Rattle.plain.proofs.PairSizes.{pair_up, pair_line, pair_down}
use Rattle.plain.proofs.Range.{ranged, taken-goes-up}

-- ---- a line of entries of n stations

module _ (n : ℕ) (stock : Units) where
  -- each entry is one of its station's
  line-counted : (line : List Entry) → all (entry_in n stock) line ≡ true → length line ≤ total (λ s. length (units_in s line)) n
  unfolding entry_in units_in
  line-counted [] e = omega arith
  line-counted (x ∷ line) e =
      let below = ltb-true x.station n (and_left (ltb x.station n) (request_in stock x.units) (and_left (entry_in n stock x) (all (entry_in n stock) line) e)) in
      omega (
        arith,
        line-counted line (and_right (entry_in n stock x) (all (entry_in n stock) line) e),
        total_less (λ s. length (units_in s line)) (λ s. length (units_in s (x ∷ line))) n x.station below
            (λ s l. either (λ us. length (units_in s line) ≤ length us) (eqb x.station s) {x = x.units ∷ units_in s line} {y = units_in s line} (omega arith) (omega arith))
            (rw (eq-eqb x.station x.station refl) (omega arith)),
      )

  -- no station has more than one
  pub line_most : (line : List Entry) → all (entry_in n stock) line ≡ true → ((s : ℕ) → length (units_in s line) ≤ 1) → length line ≤ n
  line_most line e one = omega (arith, line-counted line e, total_most (λ s. length (units_in s line)) n 1 (λ s l. one s))

  -- a message of one of them arrives
  arrived-all : (m : Message) (s : ℕ) (a : Arbiter) → s < n → goes_up stock m ≡ true → all (entry_in n stock) a.line ≡ true → all (entry_in n stock) (arrived m s a).line ≡ true
  unfolding arrived goes_up entry_in
  arrived-all (Request h) s a l u e = all_append (entry_in n stock) a.line (record { station = s; units = h } ∷ []) e (and_both (and_both (lt-ltb s n l) u) refl)
  arrived-all Release s a l u e = e
  arrived-all Withdraw s a l u e = without_all s (entry_in n stock) a.line e
  arrived-all Grant s a l u e = e
  arrived-all Gone s a l u e = e

-- ---- Up

module _ (st : State) (s j : ℕ) (m : Message) (rest : List Message) (d : Delivers st s j (st.up s j) m rest) (i : Invariant st) where
  one_entry : (t : ℕ) → length (units_in t (arrived_at st s j m).line) ≤ 1
  one_entry t =
      by_cases (ℕ_discrete t s)
      (λ (e : t ≡ s). rw e (pair_line (arrived_own st.stock s (st.arbiter j) m (taken-goes-up st s j m rest d) (rw d.taken at (i.pairs s j)))))
      (λ (o : t ≡ s → ⊥). rw (arrived-line st.stock s (st.arbiter j) m t o) (pair_line (i.pairs t j)))

  line-room : length (arrived_at st s j m).line ≤ st.n
  line-room =
      let facts = arbiter_facts st.n st.stock (st.arbiter j) ((ranged st d.range).arbiters j d.arbiter) in
      line_most st.n st.stock (arrived_at st s j m).line
      (arrived-all st.n st.stock m s (st.arbiter j) d.station (taken-goes-up st s j m rest d) (keeps-all line_places (entry_in st.n st.stock) (st.arbiter j).line facts.line))
      one_entry

  lane_room : (t : ℕ) → length (granted_at st s j m t j) ≤ down_places
  unfolding delivered_of
  lane_room t = pair_down ((up-keeps st s j m rest d i).pairs t j)

  pub up_room : up_passes st s j m ≡ false
  up_room =
      let few = (limits_kept st.n (asked_with st.stock) st.table (ranged st d.range).limits).stations.1 in
      rw (le-ltb line_places (length (arrived_at st s j m).line) (omega (arith, line-room)))
      (some_empty (λ t. passes down_places (granted_at st s j m t j)) st.n (λ t l. le-ltb down_places (length (granted_at st s j m t j)) (lane_room t)))

-- ---- Down

module _ (st : State) (s j : ℕ) (rest : List Message) where
  made-room : (t : Taken) → Invariant (received_as st s j rest t) → down_passes st s t ≡ false
  unfolding received_as
  made-room (Taken.asks q h x) i =
      le-ltb up_places (length (sent (st.up s x) (Request h))) (omega (arith, rw (at2-same st.up s x (sent (st.up s x) (Request h))) at (pair_up (i.pairs s x))))
  made-room (Taken.holds q h) i = refl
  made-room Taken.idles i = refl
  made-room Taken.drops i = refl

  pub down-room : (m : Message) → Delivers st s j (st.down s j) m rest → Invariant st → down_passes_of st s j m ≡ false
  down-room m d i = made-room (taken_at st s j m) (down-keeps st s j m rest d i)
