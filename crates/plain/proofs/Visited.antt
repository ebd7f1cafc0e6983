-- One station collects while nothing else is under way: a member with room grants at once, and the next is asked.
-- Assumes nothing.
use mathlib.Core.Bool.{true, false, cond}
use mathlib.Core.List.{[], ◌∷◌}
use mathlib.Core.Logic.{by_cases}
use mathlib.Core.Path.{◌≡◌, refl, sym, ap, ◌∙◌}
use Prim.Native.Nat.{ℕ, suc, ◌+◌, ◌≤◌, ◌<◌}
use native.Mathlib.Decide.{ℕ_discrete}
use native.Mathlib.Omega.{arith}
use lib.ListN.{length}
use borrow.Author.Tests.{eq-eqb, ne_eqb, lt-ltb, le-ltb}
use Rattle.lists.specs.At.{at, at2}
use Rattle.lists.specs.Counting.{total}
use Rattle.lists.proofs.Changed.{at_same, at_other, at_all, at2-same, at2_other, at2-all}
use Rattle.lists.proofs.Searches.{some-found}
use Rattle.lists.proofs.Tests.{clash}
use Rattle.std.proofs.lemmas.Bool.{false_from_ne_true}
use Rattle.lists.proofs.Totals.{total-at-le}
use Rattle.stations.specs.Member.{member}
use Rattle.stations.specs.Sets.{places, lowest_from}
use Rattle.stations.proofs.Lowest.{lowest-here}
use Rattle.quorum.specs.Family.{quorum}
use Rattle.units.specs.Units.{fits, Amount, amount}
use Rattle.units.specs.declared.Units.{Units}
use Rattle.units.proofs.Amounts.{Within, within-fits}
use Rattle.plain.specs.Arbiter.{arrived, Served, serve, units_in}
use Rattle.plain.specs.Down.{Taken, onward, taken, taken_at, down_passes, down_passes_of, received_as}
use Rattle.plain.specs.InRange.{in_range}
use Rattle.plain.specs.Lanes.{down_places, passes, sent}
use Rattle.plain.specs.Run.{Call, call}
use Rattle.plain.specs.State.{State}
use Rattle.plain.specs.Updates.{with_arbiter, with_up, with_downs}
use Rattle.plain.specs.Up.{served_at, replying, granting, up_passes, delivered_of}
use Rattle.plain.specs.declared.Entry.{Entry}
use Rattle.plain.specs.declared.Message.TheVariants.{Request, Grant}
use Rattle.plain.specs.declared.Phase.{Phase}
use Rattle.plain.specs.declared.Phase.TheVariants.{Collecting, Holding}
use Rattle.plain.proofs.Approaching.{station_place, onward_as, Lowest_member}
use Rattle.plain.proofs.Passed.{up_done, down-done}
use Rattle.plain.proofs.Range.{ranged}
use Rattle.plain.proofs.StaysInRange.{call_in_range}
use Rattle.plain.proofs.Visiting.{toward, Visiting}

-- arbiter i has granted the units h to station s, and GRANT is under way
unfoldable pub granted_to : State → ℕ → Units → ℕ → State
granted_to st s h i =
    with_downs (granting st.down i (record { station = s; units = h } ∷ []))
    (with_arbiter i (record { granted = at (st.arbiter i).granted s h; line = [] }) (with_up s i [] st))

-- and the station has taken the GRANT
unfoldable pub visited : State → ℕ → ℕ → Units → ℕ → State
visited st s p h i = received_as (granted_to st s h i) s i [] (onward st.table p h i)

module _ (a : Amount) (st : State) (was : ℕ → Phase) (s p : ℕ) (h : Units) (i : ℕ) (load : ℕ → ℕ) (v : Visiting a st was s p h i load)
    (exists : s < st.n) (below : i < st.n) (number : p < length st.table) (belongs : member (quorum st.table p) i ≡ true)
    (room : fits st.n st.stock (st.arbiter i).granted h ≡ true) where
  entry : Entry
  entry = record { station = s; units = h }

  place : i < places
  place = omega (arith, station_place st.n st.stock st.table (ranged st v.range).limits)

  -- the member is the next
  here : lowest_from (quorum st.table p) i ≡ i
  here = lowest-here (quorum st.table p) i place belongs

  collecting : st.phase s ≡ Collecting p h i
  unfolding toward
  collecting = v.phase ∙ rw (here, lt-ltb i places place)

  lane : st.up s i ≡ Request h ∷ []
  lane = rw here at (v.asked (rw here place))

  -- the entry fits, so the line is empty again
  after_service : Served
  after_service = record { arbiter = record { granted = at (st.arbiter i).granted s h; line = [] }; grants = entry ∷ [] }

  service : served_at st s i (Request h) ≡ after_service
  unfolding arrived serve after_service entry
  service = rw (v.lines i, room)

  abbrev granted : State
  granted = granted_to st s h i

  grant_lane : granting st.down i (entry ∷ []) s i ≡ Grant ∷ []
  unfolding granting units_in entry
  grant_lane = rw (eq-eqb i i refl, eq-eqb s s refl, v.downs s i)

  grant_others : (t j : ℕ) → (t ≡ s → j ≡ i → ⊥) → granting st.down i (entry ∷ []) t j ≡ []
  unfolding granting units_in entry
  grant_others t j o =
      by_cases (ℕ_discrete j i)
      (λ (e : j ≡ i). rw (e, eq-eqb i i refl, ne_eqb s t (λ x. o (sym x) e), v.downs t i))
      (λ (d : j ≡ i → ⊥). rw (ne_eqb j i d) (v.downs t j))

  short : (t : ℕ) → passes down_places (granting st.down i (entry ∷ []) t i) ≡ false
  short t =
      by_cases (ℕ_discrete t s)
      (λ (e : t ≡ s). rw (e, grant_lane) refl)
      (λ (d : t ≡ s → ⊥). rw (grant_others t i (λ e x. d e)) refl)

  up_room : up_passes st s i (Request h) ≡ false
  unfolding arrived replying after_service
  up_room = rw (service, v.lines i) (false_from_ne_true _ (λ t. let (x, l, full) = some-found _ st.n t in clash full (short x)))

  granted-done : (call st (Call.Up s i)).state ≡ granted
  unfolding call replying delivered_of granted_to after_service entry
  granted-done =
      ap (λ x. x.state) (up_done st s i (record { range = v.range; station = exists; arbiter = below; taken = lane }) up_room)
      ∙ rw service

  -- then no lane up has a message
  ups_empty : (t j : ℕ) → j < st.n → at2 st.up s i [] t j ≡ []
  ups_empty t j l = at2-all (λ lane. lane ≡ []) st.up s i [] refl t j (λ o. v.ups t j l (λ x y. o x (y ∙ here)))

  taken-onward : taken_at granted s i Grant ≡ onward st.table p h i
  unfolding taken granted_to
  taken-onward = rw (collecting, eq-eqb i i refl)

  -- what the station makes of the GRANT
  onward-next : (P : Taken → Type 0)
      → (Lowest_member st.n (quorum st.table p) (suc i) (lowest_from (quorum st.table p) (suc i)) → P (Taken.asks p h (lowest_from (quorum st.table p) (suc i))))
      → ((lowest_from (quorum st.table p) (suc i) < places → ⊥) → P (Taken.holds p h))
      → P (onward st.table p h i)
  onward-next P asks holds = onward_as st.n st.stock st.table (ranged st v.range).limits p number P h i asks (λ l none. holds l)

  down-room : down_passes_of granted s i Grant ≡ false
  unfolding granted_to
  down-room = rw taken-onward (onward-next (λ t. down_passes granted s t ≡ false) (λ m. rw (ups_empty s (lowest_from (quorum st.table p) (suc i)) m.station) refl) (λ none. refl))

  range-granted : in_range granted ≡ true
  range-granted = rw (sym granted-done) (call_in_range st (Call.Up s i) v.range)

  grant_taken : (call granted (Call.Down s i)).state ≡ visited st s p h i
  unfolding call visited granted_to entry
  grant_taken =
      ap (λ x. x.state) (down-done granted s i (record { range = range-granted; station = exists; arbiter = below; taken = grant_lane }) down-room)
      ∙ ap (received_as granted s i []) taken-onward

  pub visit_done : (call (call st (Call.Up s i)).state (Call.Down s i)).state ≡ visited st s p h i
  visit_done = rw granted-done grant_taken

  range_visited : in_range (visited st s p h i) ≡ true
  range_visited = rw (sym grant_taken) (call_in_range granted (Call.Down s i) range-granted)

  visited_downs : (t j : ℕ) → at2 (granting st.down i (entry ∷ [])) s i [] t j ≡ []
  visited_downs t j = at2-all (λ lane. lane ≡ []) (granting st.down i (entry ∷ [])) s i [] refl t j (λ o. grant_others t j o)

  visited_lines : (j : ℕ) → (at st.arbiter i after_service.arbiter j).line ≡ []
  unfolding after_service
  visited_lines j = at_all (λ b. b.line ≡ []) st.arbiter i after_service.arbiter refl j (v.lines j)

  visited_within : (j : ℕ) → Within st.n st.stock (at st.arbiter i after_service.arbiter j).granted
  unfolding after_service
  visited_within j =
      at_all (λ b. Within st.n st.stock b.granted) st.arbiter i after_service.arbiter (within-fits st.n st.stock (st.arbiter i).granted s h room) j (v.within j)

  visited_later : (j : ℕ) → suc i ≤ j → total (λ t. amount a ((at st.arbiter i after_service.arbiter j).granted t)) st.n ≤ load j
  visited_later j l = rw (at_other st.arbiter i after_service.arbiter j (λ e. omega arith)) (v.unvisited j (omega arith))

  visited_loads : (j : ℕ) → total (λ t. amount a ((at st.arbiter i after_service.arbiter j).granted t)) st.n ≤ load j + cond (member (quorum st.table p) j) (amount a h) 0
  unfolding after_service
  visited_loads j =
      by_cases (ℕ_discrete j i)
      (λ (e : j ≡ i). rw (e, at_same st.arbiter i after_service.arbiter, belongs) (omega (arith, total-at-le (amount a) (st.arbiter i).granted s h st.n, v.unvisited i (omega arith))))
      (λ (o : j ≡ i → ⊥). rw (at_other st.arbiter i after_service.arbiter j o) (v.loads j))

  asks-next : Lowest_member st.n (quorum st.table p) (suc i) (lowest_from (quorum st.table p) (suc i))
      → in_range (received_as granted s i [] (Taken.asks p h (lowest_from (quorum st.table p) (suc i)))) ≡ true
      → Visiting a (received_as granted s i [] (Taken.asks p h (lowest_from (quorum st.table p) (suc i)))) was s p h (suc i) load
  unfolding received_as granted_to toward entry after_service
  asks-next low range =
      record {
        range = range;
        phase = rw (at_same st.phase s (Collecting p h m), lt-ltb m places low.place);
        others = λ t o. at_other st.phase s (Collecting p h m) t o ∙ v.others t o;
        asked = λ l. rw (at2-same (at2 st.up s i []) s m (sent (at2 st.up s i [] s m) (Request h)), ups_empty s m low.station);
        ups = λ t j l o. at2_other (at2 st.up s i []) s m (sent (at2 st.up s i [] s m) (Request h)) t j o ∙ ups_empty t j l;
        downs = visited_downs;
        lines = visited_lines;
        within = visited_within;
        unvisited = visited_later;
        loads = visited_loads;
      }
    where
      m : ℕ
      m = lowest_from (quorum st.table p) (suc i)

  holds_now : (lowest_from (quorum st.table p) (suc i) < places → ⊥) → in_range (received_as granted s i [] (Taken.holds p h)) ≡ true
      → Visiting a (received_as granted s i [] (Taken.holds p h)) was s p h (suc i) load
  unfolding received_as granted_to toward entry after_service
  holds_now none range =
      record {
        range = range;
        phase = rw (at_same st.phase s (Holding p h), le-ltb m places (omega arith));
        others = λ t o. at_other st.phase s (Holding p h) t o ∙ v.others t o;
        asked = λ l. absurd (none l);
        ups = λ t j l o. ups_empty t j l;
        downs = visited_downs;
        lines = visited_lines;
        within = visited_within;
        unvisited = visited_later;
        loads = visited_loads;
      }
    where
      m : ℕ
      m = lowest_from (quorum st.table p) (suc i)

  pub visit : Visiting a (visited st s p h i) was s p h (suc i) load
  unfolding visited
  visit =
      onward-next (λ t. in_range (received_as granted s i [] t) ≡ true → Visiting a (received_as granted s i [] t) was s p h (suc i) load)
      asks-next holds_now range_visited
