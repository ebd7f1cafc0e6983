-- A station that finds all calm and room at every member of its quorum holds its units in the end, and all is calm again.
-- Assumes nothing.
use mathlib.Core.Bool.{true, false, cond}
use mathlib.Core.List.{List}
use mathlib.Core.Logic.{by_cases, ⊎_elim}
use mathlib.Core.Path.{◌≡◌, refl, ◌∙◌}
use Prim.Native.Nat.{ℕ, zero, suc, ◌+◌, ◌≤◌, ◌<◌}
use native.Mathlib.Decide.{ℕ_discrete}
use native.Mathlib.Omega.{arith}
use lib.ListN.{length}
use borrow.Author.Tests.{le-ltb}
use Rattle.lists.specs.At.{at}
use Rattle.lists.specs.Counting.{total}
use Rattle.lists.proofs.Changed.{at_same, at_other}
use Rattle.std.proofs.lemmas.Bool.{cases_Bool}
use Rattle.lists.proofs.Totals.{total-same}
use Rattle.stations.specs.Member.{member}
use Rattle.stations.specs.Sets.{places, lowest_from}
use Rattle.quorum.specs.Family.{quorum}
use Rattle.units.specs.Units.{request_in, fits, Amount, amount}
use Rattle.units.specs.declared.Units.{Units}
use Rattle.units.proofs.Amounts.{amount-none, Within}
use Rattle.plain.specs.Down.{received_as}
use Rattle.plain.specs.Exceeding.{visits, collects}
use Rattle.plain.specs.Release.{held}
use Rattle.plain.specs.Request.{requested}
use Rattle.plain.specs.Run.{Call, call, after}
use Rattle.plain.specs.State.{State}
use Rattle.plain.specs.declared.Phase.{Phase}
use Rattle.plain.specs.declared.Phase.TheVariants.{Holding}
use Rattle.plain.proofs.Approaching.{station_place, next-member}
use Rattle.plain.proofs.Held.{held_by, held_at}
use Rattle.plain.proofs.Range.{ranged}
use Rattle.plain.proofs.SameTable.{Same_table, calls_same}
use Rattle.plain.proofs.Visited.{granted_to, visited, visit_done, visit}
use Rattle.plain.proofs.Visiting.{Calm, toward, Visiting, asked-done, request-visits, pass_by}

-- a member is visited by two calls, any other arbiter by none
visits-member : (st : State) (q s i more : ℕ) → member q i ≡ true
    → after st (visits q s i (suc more)) ≡ after (call (call st (Call.Up s i)).state (Call.Down s i)).state (visits q s (suc i) more)
unfolding visits after
visits-member st q s i more e = rw e refl

visits_other : (st : State) (q s i more : ℕ) → member q i ≡ false → after st (visits q s i (suc more)) ≡ after st (visits q s (suc i) more)
unfolding visits
visits_other st q s i more e = rw e refl

collects_first : (st : State) (n s p : ℕ) (h : Units) (table : List ℕ)
    → after st (collects n table s p h) ≡ after (call st (Call.Request s p h)).state (visits (quorum table p) s 0 n)
unfolding collects after
collects_first st n s p h table = refl

-- the units h fit beside any that are within the stock and, of the amount, within the load
abbrev pub FitsBeside : Amount → State → Units → ℕ → Type 0
FitsBeside a st h load = (granted : ℕ → Units) → Within st.n st.stock granted → total (λ s. amount a (granted s)) st.n ≤ load → fits st.n st.stock granted h ≡ true

module _ (a : Amount) (s p : ℕ) (h : Units) (load : ℕ → ℕ) (was : ℕ → Phase) where
  -- from member to member
  all_visited : (more i : ℕ) (st : State) → Visiting a st was s p h i load → i + more ≡ st.n → s < st.n → p < length st.table
      → ((j : ℕ) → i ≤ j → j < st.n → member (quorum st.table p) j ≡ true → FitsBeside a st h (load j))
      → Visiting a (after st (visits (quorum st.table p) s i more)) was s p h st.n load
  unfolding visits after visited received_as granted_to
  all_visited zero i st v e exists number room = let end : i ≡ st.n = omega arith in rw end at v
  all_visited (suc more) i st v e exists number room =
      ⊎_elim
      (λ (m : member (quorum st.table p) i ≡ true).
      let fit = room i (omega arith) (omega arith) m (st.arbiter i).granted (v.within i) (v.unvisited i (omega arith)) in
      let v' = visit a st was s p h i load v exists (omega arith) number m fit in
      rw (visits-member st (quorum st.table p) s i more m, visit_done a st was s p h i load v exists (omega arith) number m fit)
      (all_visited more (suc i) (visited st s p h i) v' (omega arith) exists number (λ j l. room j (omega arith))))
      (λ (o : member (quorum st.table p) i ≡ false).
      rw (visits_other st (quorum st.table p) s i more o)
      (all_visited more (suc i) st (pass_by a st was s p h i load v (omega (arith, station_place st.n st.stock st.table (ranged st v.range).limits)) o) (omega arith) exists number (λ j l. room j (omega arith))))
      (cases_Bool (member (quorum st.table p) i))

-- what comes of it
pub record Collected (a : Amount) (st next : State) (s p : ℕ) (h : Units) (load : ℕ → ℕ) : Type 0 where
  pub calm : Calm a next (suc s) (λ j. load j + cond (member (quorum st.table p) j) (amount a h) 0)
  pub holds : held_by a next.phase next.n ≡ held_by a st.phase st.n + amount a h

module _ (a : Amount) (st : State) (s p : ℕ) (h : Units) (load : ℕ → ℕ) (calm : Calm a st s load) (exists : s < st.n) (number : p < length st.table) (units : request_in st.stock h ≡ true)
    (room : (j : ℕ) → j < st.n → member (quorum st.table p) j ≡ true → FitsBeside a st h (load j)) where
  next : State
  next = after st (collects st.n st.table s p h)

  end : Visiting a next st.phase s p h st.n load
  unfolding next requested
  end =
      rw (collects_first st st.n s p h st.table, asked-done a st s p h load calm exists number units)
      (all_visited a s p h load st.phase st.n 0 (requested st s p h) (request-visits a st s p h load calm exists number units) (omega arith) exists number (λ j l. room j))

  same : Same_table st next
  unfolding next
  same = calls_same st (collects st.n st.table s p h)

  -- no member is left
  no_next : lowest_from (quorum next.table p) st.n < places → ⊥
  no_next l =
      let m = next-member next.n next.stock next.table (ranged next end.range).limits p (rw same.table number) st.n l in
      omega (arith, m.station, m.from, same.n)

  holding : next.phase s ≡ Holding p h
  unfolding toward
  holding = end.phase ∙ rw (le-ltb (lowest_from (quorum next.table p) st.n) places (omega (arith, no_next)))

  one : (t : ℕ) → amount a (held (next.phase t)) ≡ amount a (held (at st.phase s (Holding p h) t))
  one t =
      by_cases (ℕ_discrete t s)
      (λ (e : t ≡ s). rw (e, holding, at_same st.phase s (Holding p h)))
      (λ (d : t ≡ s → ⊥). rw (end.others t d, at_other st.phase s (Holding p h) t d))

  more-held : held_by a next.phase st.n ≡ held_by a st.phase st.n + amount a h
  more-held =
      let none : amount a (held (st.phase s)) ≡ 0 = rw (calm.idle s (omega arith)) (amount-none a) in
      let sum = held_at a st.phase s st.n (Holding p h) exists in
      let now = total-same (λ t. amount a (held (next.phase t))) (λ t. amount a (held (at st.phase s (Holding p h) t))) st.n (λ t l. one t) in
      omega arith

  pub collected : Collected a st (after st (collects st.n st.table s p h)) s p h load
  unfolding next
  collected =
      record {
        calm = record {
          range = end.range;
          idle = λ t l. end.others t (λ e. omega arith) ∙ calm.idle t (omega arith);
          ups = λ t j l. end.ups t j l (λ e x. no_next (omega (arith, station_place next.n next.stock next.table (ranged next end.range).limits)));
          downs = end.downs;
          lines = end.lines;
          within = end.within;
          loads = λ j. rw same.table at (end.loads j);
        };
        holds = rw same.n more-held;
      }
