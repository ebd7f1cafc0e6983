-- The members still to come: collecting over a quorum of m members, a station is told m - 1, m - 2, .. 0, one less at each member. From any state, for
-- any list of calls.
-- Assumes nothing.
use mathlib.Core.Bool.{Bool, true, false, cond, ◌&&◌, ◌||◌, true≢false}
use mathlib.Core.List.{List, [], ◌∷◌, ◌++◌}
use mathlib.Core.Logic.{by_cases, ⊎_elim}
use mathlib.Core.Path.{◌≡◌, refl, sym, ap, subst, ◌∙◌}
use Prim.Native.Nat.{ℕ, suc, ◌<◌}
use native.Mathlib.Decide.{ℕ_discrete, dec_lt}
use native.Mathlib.Omega.{arith}
use lib.Dec.{eqb, ltb}
use borrow.Author.Tests.{eq-eqb, ne_eqb, eqb-true, lt-ltb, le-ltb}
use Rattle.lists.proofs.Changed.{at_same}
use Rattle.std.proofs.lemmas.Bool.{cases_Bool, or_parts}
use Rattle.stations.specs.Sets.{places, count_below, lowest_from, members_above}
use Rattle.stations.proofs.Above.{from_lowest, from_none, from_all}
use Rattle.quorum.specs.Family.{quorum}
use Rattle.units.specs.declared.Units.{Units}
use Rattle.plain.specs.Answer.{Answer, Returned, nothing, left_only, done, answered}
use Rattle.plain.specs.Down.{Taken, onward, taken, taken_at, comes, down_refusal, phase_then, received_as, received, returning, down}
use Rattle.plain.specs.Lanes.{oldest}
use Rattle.plain.specs.Release.{release_refusal, released, held, release}
use Rattle.plain.specs.Request.{request_refusal, lowest, requested, request_returns, request}
use Rattle.plain.specs.Run.{Call, call, after}
use Rattle.plain.specs.State.{State}
use Rattle.plain.specs.StillToCome.{is_asking, asks_on, sends, told, down_from, CountedDown}
use Rattle.plain.specs.Up.{up_refusal, delivered, up}
use Rattle.plain.specs.Withdraw.{withdraw_refusal, withdrawn, withdraw}
use Rattle.plain.specs.Withdrawn.{station_of, asks, asks_again}
use Rattle.plain.specs.declared.Message.{Message}
use Rattle.plain.specs.declared.Phase.{Phase}
use Rattle.plain.specs.declared.Phase.TheVariants.{Idle, Collecting, Holding, Withdrawing}
use Rattle.plain.proofs.Answered.{answered_as, answered_passed}
use Rattle.plain.proofs.Approaching.{made_as, left_as, first_member}
use Rattle.plain.proofs.OwnPhase.{each_own}
use Rattle.plain.proofs.Passed.{requests, request-done}
use Rattle.plain.proofs.Range.{ranged}
use Rattle.plain.proofs.SameTable.{call_same}

-- ---- "otherwise 0"

module _ (st : State) where
  message-none : (t : Taken) → is_asking t ≡ false → comes st t ≡ 0
  message-none (Taken.asks q h m) e = absurd (true≢false e)
  message-none (Taken.holds q h) e = refl
  message-none Taken.idles e = refl
  message-none Taken.drops e = refl

  lane-none : (s j : ℕ) (lane : List Message) → oldest (λ m. is_asking (taken_at st s j m)) lane ≡ false → (returning st s j lane).above ≡ 0
  unfolding returning
  lane-none s j [] e = refl
  lane-none s j (m ∷ rest) e = message-none (taken_at st s j m) e

  answer-none : (r : ℕ) (x : Returned) (next : State) → x.above ≡ 0 → (answered st r x next).above ≡ 0
  answer-none r x next none = answered_as st x next (λ a. a.above ≡ 0) r (λ z. none) refl

  -- a call that does not send its station's REQUEST returns 0
  pub otherwise_none : (c : Call) → sends (station_of c) st c ≡ false → (call st c).above ≡ 0
  unfolding call request up down release withdraw
  otherwise_none (Call.Request s q h) e =
      answered_as st (request_returns st q) (requested st s q h) (λ a. ((eqb s s && eqb a.refusal 0) || false) ≡ false → a.above ≡ 0) (request_refusal st s q h)
      (λ z y. absurd (true≢false (rw (eq-eqb s s refl) at y)))
      (λ y. refl)
      e
  otherwise_none (Call.Up s j) e = answer-none (up_refusal st s j) nothing (delivered st s j (st.up s j)) refl
  otherwise_none (Call.Down s j) e =
      answered_as st (returning st s j (st.down s j)) (received st s j (st.down s j))
      (λ a. (eqb s s && (eqb a.refusal 0 && oldest (λ m. is_asking (taken_at st s j m)) (st.down s j))) ≡ false → a.above ≡ 0) (down_refusal st s j)
      (λ z y. lane-none s j (st.down s j) (rw (eq-eqb s s refl) at y))
      (λ y. refl)
      e
  otherwise_none (Call.Release s) e = answer-none (release_refusal st s) (left_only (held (st.phase s))) (released st s (st.phase s)) refl
  otherwise_none (Call.Withdraw s) e = answer-none (withdraw_refusal st s) nothing (withdrawn st s (st.phase s)) refl

-- ---- one call

module _ (s : ℕ) where
  -- the numbers that station s is still to be told, by what it does: none when it holds
  abbrev Due : List ℕ → Phase → List ℕ → Type 0
  Due table Idle more = Unit {0}
  Due table (Collecting q h m) more = more ≡ down_from (members_above (quorum table q) m)
  Due table (Holding q h) more = more ≡ []
  Due table Withdrawing more = Unit {0}

  module _ (st : State) (more : List ℕ) (due : Due st.table (st.phase s) more) where
    -- the first of them is told, if one is, and the rest are due then
    Told : Bool → ℕ → State → Type 0
    Told b above next = (rest : List ℕ) × (more ≡ cond b (above ∷ rest) rest) × Due next.table (next.phase s) rest

    -- nothing is told, and s does what it did
    stays : (above : ℕ) → Told false above st
    unfolding Told
    stays above = (more, refl, due)

    -- what station s makes of a message
    Made : Taken → Type 0
    Made t = (rest : List ℕ) × (more ≡ cond (is_asking t) (comes st t ∷ rest) rest) × Due st.table (phase_then st s t s) rest

    drops : Made Taken.drops
    unfolding Made
    drops = (more, refl, due)

    -- a GRANT of the member that it approaches
    module _ (j q : ℕ) (h : Units) (collects : st.phase s ≡ Collecting q h j) where
      abbrev set : ℕ
      set = quorum st.table q

      abbrev next : ℕ
      next = lowest_from set (suc j)

      is_due : more ≡ down_from (members_above set j)
      is_due = rw collects at due

      granted : Made (cond (ltb next places) (Taken.asks q h next) (Taken.holds q h))
      unfolding Made down_from
      granted =
          by_cases (dec_lt next places)
          (λ (l : next < places). rw (lt-ltb next places l)
          (down_from (members_above set next), is_due ∙ ap down_from (from_lowest set (suc j) l), rw (at_same st.phase s (Collecting q h next)) refl))
          (λ (l : ¬ (next < places)). rw (le-ltb next places (omega arith))
          ([], is_due ∙ ap down_from (from_none set (suc j) (omega arith)), rw (at_same st.phase s (Holding q h)) refl))

    grant : (j : ℕ) (p : Phase) → st.phase s ≡ p → Made (taken st.table j p)
    unfolding taken onward
    grant j Idle e = drops
    grant j (Holding q h) e = drops
    grant j Withdrawing e = drops
    grant j (Collecting q h i) e =
        ⊎_elim (λ b. rw b (granted j q h (e ∙ ap (Collecting q h) (eqb-true i j b)))) (λ b. rw b drops) (cases_Bool (eqb i j))

    message : (j : ℕ) (m : Message) → Made (taken_at st s j m)
    unfolding Made
    message j m =
        made_as Made st.table j (st.phase s) drops (grant j (st.phase s) refl)
        (left_as Made (st.phase s) drops (λ w. (more, refl, rw (at_same st.phase s Idle) tt)))
        m

    -- ---- each call

    own_told : (j : ℕ) (lane : List Message) → Told (oldest (λ m. is_asking (taken_at st s j m)) lane) (returning st s j lane).above (received st s j lane)
    unfolding received received_as returning Told Made
    own_told j [] = stays 0
    own_told j (m ∷ rest) = message j m

    own_down : (j : ℕ) → Told (asks_on s st (Call.Down s j)) (call st (Call.Down s j)).above (call st (Call.Down s j)).state
    unfolding call down answered
    own_down j =
        rw (eq-eqb s s refl)
        (by_cases (ℕ_discrete (down_refusal st s j) 0)
        (λ (e : down_refusal st s j ≡ 0). rw e (own_told j (st.down s j)))
        (λ (d : down_refusal st s j ≡ 0 → ⊥). let some = ne_eqb (down_refusal st s j) 0 d in rw (some, some) (stays 0)))

    step : (c : Call) → asks s st c ≡ false → Told (asks_on s st c) (call st c).above (call st c).state
    unfolding Told
    step =
        each_own s st (λ p. Due st.table p more) due (λ c. Told (asks_on s st c) (call st c).above (call st c).state) tt tt own_down
        (λ c e p. rw (e, (call_same st c).table) (more, refl, p))

-- ---- lists of calls

-- What is left of the numbers that are due: a list of calls tells the first of them, and the rest are due in the end.
counts : (s : ℕ) (st : State) (calls : List Call) (more : List ℕ) → Due s st.table (st.phase s) more → asks_again s st calls ≡ false
    → (rest : List ℕ) × (told s st calls ++ rest ≡ more) × Due s (after st calls).table ((after st calls).phase s) rest
unfolding told asks_again after Told
counts s st [] more due none = (more, refl, due)
counts s st (c ∷ calls) more due none =
    let (now, then) = or_parts (asks s st c) (asks_again s (call st c).state calls) none in
    let (rest, is, due_then) = step s st more due c now in
    let (end, all, due-end) = counts s (call st c).state calls rest due_then then in
    (end, joined (asks s st c) (asks_on s st c) (call st c).above (told s (call st c).state calls) rest end more now all is, due-end)
  where
    joined : (a b : Bool) (above : ℕ) (numbers rest end more : List ℕ) → a ≡ false → numbers ++ end ≡ rest → more ≡ cond b (above ∷ rest) rest
        → cond (a || b) (above ∷ numbers) numbers ++ end ≡ more
    joined true b above numbers rest end more e all is = absurd (true≢false e)
    joined false true above numbers rest end more e all is = ap (λ (l : List ℕ). above ∷ l) all ∙ sym is
    joined false false above numbers rest end more e all is = all ∙ sym is

-- the numbers due, by what the station does
due_holding : (s : ℕ) (table : List ℕ) (p : Phase) (more : List ℕ) → Due s table p more → (q : ℕ) (h : Units) → p ≡ Holding q h → more ≡ []
due_holding s table p more due q h e = rw e at due

due_collecting : (s : ℕ) (table : List ℕ) (p : Phase) (more : List ℕ) → Due s table p more → (q : ℕ) (h : Units) (i : ℕ) → p ≡ Collecting q h i
    → more ≡ down_from (members_above (quorum table q) i)
due_collecting s table p more due q h i e = rw e at due

module _ (st : State) (s q : ℕ) (h : Units) (accepted : (call st (Call.Request s q h)).refusal ≡ 0) where
  abbrev asked : State
  asked = (call st (Call.Request s q h)).state

  passed : request_refusal st s q h ≡ 0
  unfolding call request
  passed = answered_passed st (request_returns st q) (requested st s q h) (request_refusal st s q h) accepted

  is_done_lem : call st (Call.Request s q h) ≡ done (request_returns st q) (requested st s q h)
  unfolding call
  is_done_lem = let (r, room) = requests st s q h passed in request-done st s q h r room

  -- a quorum has a lowest member, and all others lie above it
  members : count_below (quorum st.table q) places ≡ suc (members_above (quorum st.table q) (lowest st q))
  members =
      let (r, room) = requests st s q h passed in
      let low = first_member st.n st.stock st.table (ranged st r.range).limits q r.quorum in
      sym (from_all (quorum st.table q)) ∙ from_lowest (quorum st.table q) 0 low.place

  -- those above it are told at once, and then due one by one
  abbrev others : ℕ
  others = members_above (quorum st.table q) (lowest st q)

  due_then : Due s asked.table (asked.phase s) (down_from others)
  unfolding requested
  due_then =
      subst (λ (a : Answer). Due s a.state.table (a.state.phase s) (down_from others)) (sym is_done_lem)
      (rw (at_same st.phase s (Collecting q h (lowest st q))) refl)

  told_first : (calls : List Call) → told s st (Call.Request s q h ∷ calls) ≡ others ∷ told s asked calls
  unfolding told
  told_first calls =
      rw (eq-eqb s s refl, eq-eqb (call st (Call.Request s q h)).refusal 0 accepted)
      (ap (λ (a : Answer). a.above ∷ told s asked calls) is_done_lem)

  -- A Request of station s by a quorum of m members that is not refused, and any list of calls in which no other Request of s is done: the numbers
  -- that s is told are m - 1, m - 2 and so on, one less at each member, and where s holds in the end, all of them, down to 0.
  pub counted-down : (calls : List Call) → asks_again s asked calls ≡ false
      → CountedDown s (count_below (quorum st.table q) places) (told s st (Call.Request s q h ∷ calls)) (after asked calls)
  unfolding down_from
  counted-down calls none =
      let (rest, all, due) = counts s asked calls (down_from others) due_then none in
      record {
        more = rest;
        all = ap (λ (l : List ℕ). l ++ rest) (told_first calls) ∙ ap (λ (l : List ℕ). others ∷ l) all ∙ sym (ap down_from members);
        holding = due_holding s (after asked calls).table ((after asked calls).phase s) rest due;
        collecting = due_collecting s (after asked calls).table ((after asked calls).phase s) rest due;
      }
