-- A withdrawn request enters nothing: the calls of a station and what they enter there, from any state.
-- Assumes nothing.
use mathlib.Core.Bool.{Bool, true, false, cond, true≢false}
use mathlib.Core.List.{List, [], ◌∷◌, ◌++◌}
use mathlib.Core.Logic.{◌⊎◌, inl, inr, by_cases, ⊎_elim}
use mathlib.Core.Path.{◌≡◌, refl}
use Prim.Native.Nat.{ℕ, suc, ◌+◌}
use native.Mathlib.Decide.{ℕ_discrete}
use native.Mathlib.Omega.{arith}
use lib.Dec.{eqb, ltb}
use borrow.Author.Tests.{ne_eqb}
use Rattle.lists.proofs.Changed.{at_same}
use Rattle.lists.proofs.Tests.{clash, either}
use Rattle.std.proofs.lemmas.Bool.{cases_Bool, or_parts}
use Rattle.stations.specs.Sets.{places, lowest_from}
use Rattle.quorum.specs.Family.{quorum}
use Rattle.units.specs.Units.{no_units, Amount, amount}
use Rattle.units.specs.declared.Units.{Units}
use Rattle.units.proofs.Amounts.{amount-none}
use Rattle.plain.specs.Answer.{Returned, nothing, left_only, answered}
use Rattle.plain.specs.Down.{Taken, onward, taken, taken_at, enters, down_refusal, phase_then, received_as, received, returning, down}
use Rattle.plain.specs.Release.{release_refusal, released, held, release}
use Rattle.plain.specs.Request.{request_refusal, requested, request_returns, request}
use Rattle.plain.specs.Run.{Call, call, after}
use Rattle.plain.specs.State.{State}
use Rattle.plain.specs.Up.{up_refusal, delivered, up}
use Rattle.plain.specs.Withdraw.{is_collecting, withdraw_refusal, given_up, withdrawn, withdraw}
use Rattle.plain.specs.Withdrawn.{enters_at, entered_at, asks, asks_again}
use Rattle.plain.specs.declared.Message.{Message}
use Rattle.plain.specs.declared.Phase.{Phase}
use Rattle.plain.specs.declared.Phase.TheVariants.{Idle, Collecting, Holding, Withdrawing}
use Rattle.plain.proofs.Answered.{answered_as, answered_passed}
use Rattle.plain.proofs.Approaching.{made_as, left_as}
use Rattle.plain.proofs.OwnPhase.{answer_keeps, each_own}
use Rattle.plain.proofs.Passed.{withdraws, withdraw-done}

-- ---- one call

module _ (s : ℕ) where
  -- whether station s collects
  abbrev collects : State → Bool
  collects st = is_collecting (st.phase s)

  -- a station that does not collect, and does not ask, does not collect then
  module _ (st : State) (none : collects st ≡ false) where
    grant_stays : (j : ℕ) (p : Phase) → is_collecting p ≡ false → is_collecting (phase_then st s (taken st.table j p) s) ≡ false
    unfolding taken
    grant_stays j Idle e = none
    grant_stays j (Collecting q h i) e = absurd (true≢false e)
    grant_stays j (Holding q h) e = none
    grant_stays j Withdrawing e = none

    -- whatever message it takes
    down_stays : (j : ℕ) (lane : List Message) → collects (received st s j lane) ≡ false
    unfolding received received_as
    down_stays j [] = none
    down_stays j (m ∷ rest) =
        made_as (λ x. is_collecting (phase_then st s x s) ≡ false) st.table j (st.phase s) none (grant_stays j (st.phase s) none)
        (left_as (λ x. is_collecting (phase_then st s x s) ≡ false) (st.phase s) none (λ w. rw (at_same st.phase s Idle)))
        m

    stays : (c : Call) → asks s st c ≡ false → collects (call st c).state ≡ false
    unfolding call down
    stays =
        each_own s st (λ p. is_collecting p ≡ false) none (λ c. collects (call st c).state ≡ false) refl refl
        (λ j. answer_keeps s st (λ p. is_collecting p ≡ false) none (down_refusal st s j) (returning st s j (st.down s j)) (received st s j (st.down s j)) (down_stays j (st.down s j)))
        (λ c e p. p)

  module _ (a : Amount) (st : State) where
    -- of what station t enters
    abbrev part : ℕ → Units → ℕ
    part t u = cond (eqb t s) (amount a u) 0

    part_none : (t : ℕ) → part t no_units ≡ 0
    part_none t = either (λ x. x ≡ 0) (eqb t s) (amount-none a) refl

    -- nothing is entered at s, or s collects before and no longer then
    abbrev Entered : ℕ → Units → State → Type 0
    Entered t u next = (part t u ≡ 0) ⊎ ((collects st ≡ true) × (collects next ≡ false))

    -- only Down enters anything
    answer-none : (t r : ℕ) (x : Returned) (next : State) → x.entered ≡ no_units → part t (answered st r x next).entered ≡ 0
    answer-none t r x next none = answered_as st x next (λ a. part t a.entered ≡ 0) r (λ z. rw none (part_none t)) (part_none t)

    request-none : (q : ℕ) (h : Units) → enters_at a s st (Call.Request s q h) ≡ 0
    unfolding call request
    request-none q h = answer-none s (request_refusal st s q h) (request_returns st q) (requested st s q h) refl

    withdraw-none : enters_at a s st (Call.Withdraw s) ≡ 0
    unfolding call withdraw
    withdraw-none = answer-none s (withdraw_refusal st s) nothing (withdrawn st s (st.phase s)) refl

    message-enters : (t j : ℕ) (rest : List Message) (m : Message) → Entered t (enters (taken_at st t j m)) (received_as st t j rest (taken_at st t j m))
    unfolding taken onward received_as
    message-enters t j rest m = by_cases (ℕ_discrete t s) (λ (e : t ≡ s). rw e own) (λ (d : t ≡ s → ⊥). inl (rw (ne_eqb t s d)))
      where
        Made : Taken → Type 0
        Made x = Entered s (enters x) (received_as st s j rest x)

        drops : Made Taken.drops
        drops = inl (part_none s)

        grant : (p : Phase) → st.phase s ≡ p → Made (taken st.table j p)
        grant Idle e = drops
        grant (Holding q h) e = drops
        grant Withdrawing e = drops
        grant (Collecting q h i) e = asked (eqb i j) (ltb (lowest_from (quorum st.table q) (suc j)) places) (lowest_from (quorum st.table q) (suc j))
          where
            asked : (b c : Bool) (x : ℕ) → Made (cond b (cond c (Taken.asks q h x) (Taken.holds q h)) Taken.drops)
            asked true true x = inl (part_none s)
            asked true false x = inr (rw e, rw (at_same st.phase s (Holding q h)))
            asked false c x = drops

        own : Made (taken_at st s j m)
        own = made_as Made st.table j (st.phase s) drops (grant (st.phase s) refl) (left_as Made (st.phase s) drops (λ w. inl (part_none s))) m

    down-enters : (t j : ℕ) (lane : List Message) → Entered t (returning st t j lane).entered (received st t j lane)
    unfolding returning received
    down-enters t j [] = inl (part_none t)
    down-enters t j (m ∷ rest) = message-enters t j rest m

    call_enters : (c : Call) → (enters_at a s st c ≡ 0) ⊎ ((collects st ≡ true) × (collects (call st c).state ≡ false))
    unfolding call request up down release withdraw
    call_enters (Call.Request t q h) = inl (answer-none t (request_refusal st t q h) (request_returns st q) (requested st t q h) refl)
    call_enters (Call.Up t j) = inl (answer-none t (up_refusal st t j) nothing (delivered st t j (st.up t j)) refl)
    call_enters (Call.Down t j) =
        answered_as st (returning st t j (st.down t j)) (received st t j (st.down t j)) (λ x. Entered t x.entered x.state) (down_refusal st t j)
        (λ z. down-enters t j (st.down t j))
        (inl (part_none t))
    call_enters (Call.Release t) = inl (answer-none t (release_refusal st t) (left_only (held (st.phase t))) (released st t (st.phase t)) refl)
    call_enters (Call.Withdraw t) = inl (answer-none t (withdraw_refusal st t) nothing (withdrawn st t (st.phase t)) refl)

-- ---- lists of calls

module _ (a : Amount) (s : ℕ) where
  -- a station that does not collect, and does not ask again: nothing is entered there, and it does not collect in the end
  resting : (st : State) (calls : List Call) → collects s st ≡ false → asks_again s st calls ≡ false → (entered_at a s st calls ≡ 0) × (collects s (after st calls) ≡ false)
  unfolding entered_at asks_again after
  resting st [] none e = (refl, none)
  resting st (c ∷ calls) none e =
      let (now, then) = or_parts (asks s st c) (asks_again s (call st c).state calls) e in
      let (later, end) = resting (call st c).state calls (stays s st none c now) then in
      let none_now : enters_at a s st c ≡ 0 = ⊎_elim (λ z. z) (λ (t, f). absurd (clash t none)) (call_enters s a st c) in
      (omega arith, end)

  -- a station that collects in the end, and does not ask again: nothing is entered there
  collecting : (st : State) (calls : List Call) → asks_again s st calls ≡ false → collects s (after st calls) ≡ true → entered_at a s st calls ≡ 0
  unfolding entered_at asks_again after
  collecting st [] e end = refl
  collecting st (c ∷ calls) e end =
      let (now, then) = or_parts (asks s st c) (asks_again s (call st c).state calls) e in
      ⊎_elim
      (λ (on : collects s (call st c).state ≡ true).
      let none_now : enters_at a s st c ≡ 0 = ⊎_elim (λ z. z) (λ (t, f). absurd (clash on f)) (call_enters s a st c) in
      omega (arith, none_now, collecting (call st c).state calls then end))
      (λ (off : collects s (call st c).state ≡ false). absurd (clash end (resting (call st c).state calls off then).1))
      (cases_Bool (collects s (call st c).state))

  -- Withdraw(s) is not refused: s collects, and does not collect then
  withdraw_stops : (st : State) → (call st (Call.Withdraw s)).refusal ≡ 0 → (collects s st ≡ true) × (collects s (call st (Call.Withdraw s)).state ≡ false)
  unfolding call withdraw withdrawn given_up
  withdraw_stops st e =
      let passed = answered_passed st nothing (withdrawn st s (st.phase s)) (withdraw_refusal st s) e in
      let (q, h, m, w, room) = withdraws st s passed in
      (rw w.collecting, rw (withdraw-done st s w room, at_same st.phase s Withdrawing))

  -- the request that is withdrawn has entered nothing: since s asked, no call has entered anything at s
  pub had_entered_none : (st : State) (between : List Call) → asks_again s st between ≡ false → (call (after st between) (Call.Withdraw s)).refusal ≡ 0
      → entered_at a s st between ≡ 0
  had_entered_none st between e d = collecting st between e (withdraw_stops (after st between) d).0

  -- and after Withdraw(s) no call enters anything at s before s asks again
  pub enters-none_then : (st : State) (later : List Call) → (call st (Call.Withdraw s)).refusal ≡ 0 → asks_again s (call st (Call.Withdraw s)).state later ≡ false
      → entered_at a s (call st (Call.Withdraw s)).state later ≡ 0
  enters-none_then st later d e = (resting (call st (Call.Withdraw s)).state later (withdraw_stops st d).1 e).0

  -- ---- both in one: the whole list

  entered-append : (st : State) (x y : List Call) → entered_at a s st (x ++ y) ≡ entered_at a s st x + entered_at a s (after st x) y
  unfolding entered_at after
  entered-append st [] y = omega arith
  entered-append st (c ∷ x) y = omega (arith, entered-append (call st c).state x y)

  asks_append : (st : State) (x y : List Call) → asks_again s st (x ++ y) ≡ false → (asks_again s st x ≡ false) × (asks_again s (after st x) y ≡ false)
  unfolding asks_again after
  asks_append st [] y e = (refl, e)
  asks_append st (c ∷ x) y e =
      let (now, then) = or_parts (asks s st c) (asks_again s (call st c).state (x ++ y)) e in
      let (first, second) = asks_append (call st c).state x y then in
      (rw (now, first), second)

  -- "a withdrawn request enters none": from any state, station s asks; later its Withdraw is not refused; and in between and after that no
  -- other Request of s is done. Then no call of all these enters anything at s, of any amount. (That the first Request is done is not needed.)
  pub withdrawn-enters-none : (st : State) (q : ℕ) (h : Units) (between later : List Call)
      → asks_again s (call st (Call.Request s q h)).state (between ++ (Call.Withdraw s ∷ later)) ≡ false
      → (call (after (call st (Call.Request s q h)).state between) (Call.Withdraw s)).refusal ≡ 0
      → entered_at a s st (Call.Request s q h ∷ (between ++ (Call.Withdraw s ∷ later))) ≡ 0
  unfolding entered_at asks_again
  withdrawn-enters-none st q h between later e d =
      let asked = (call st (Call.Request s q h)).state in
      let (not-between, not-later) = asks_append asked between (Call.Withdraw s ∷ later) e in
      omega (
        arith,
        request-none s a st q h,
        entered-append asked between (Call.Withdraw s ∷ later),
        had_entered_none asked between not-between d,
        withdraw-none s a (after asked between),
        enters-none_then (after asked between) later d not-later,
      )
