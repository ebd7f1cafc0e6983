-- The lane limit. In every state that calls lead to from the fresh state of a table that passes 1 to 4 no lane up has more than three messages,
-- no lane down more than two and no line more than n entries; and no call finds too little room or a state out of range.
-- Assumes nothing.
use mathlib.Core.Bool.{Bool, true, false}
use mathlib.Core.List.{List, [], ◌∷◌}
use mathlib.Core.Path.{◌≡◌, refl, sym, ap, ◌∙◌}
use Prim.Native.Nat.{ℕ}
use lib.ListN.{take}
use borrow.Author.Tests.{ne_eqb}
use Rattle.lists.specs.Broken.{◌when◌}
use Rattle.lists.specs.Search.{all}
use Rattle.lists.proofs.Broken.{number_earlier}
use Rattle.lists.proofs.Tests.{clash, and_left, and_right, and_both}
use Rattle.quorum.specs.Limits.{broken_limit}
use Rattle.units.specs.Units.{asked_with}
use Rattle.units.specs.declared.Units.{Units}
use Rattle.plain.specs.Answer.{Answer, Returned, nothing, left_only, answered}
use Rattle.plain.specs.Delivery.{delivery_tests, delivery_refusal}
use Rattle.plain.specs.Down.{down_passes_of, down_refusal, received, returning, down}
use Rattle.plain.specs.InRange.{entry_in}
use Rattle.plain.specs.Inner.Passed.{Delivers}
use Rattle.plain.specs.LaneLimit.{KeptShort, meets, own_number}
use Rattle.plain.specs.Lanes.{line_places, no_place, oldest}
use Rattle.plain.specs.Release.{back_passes, release_tests, release_refusal, released, held, release}
use Rattle.plain.specs.Request.{request_passes, request_tests, request_refusal, requested, request_returns, request}
use Rattle.plain.specs.Run.{Call, call, run, after}
use Rattle.plain.specs.State.{State, fresh}
use Rattle.plain.specs.Up.{up_passes, up_refusal, delivered, up}
use Rattle.plain.specs.Withdraw.{withdraw_passes, withdraw_tests, withdraw_refusal, withdrawn, withdraw}
use Rattle.plain.specs.declared.Message.{Message}
use Rattle.plain.proofs.Answered.{answered_as}
use Rattle.plain.proofs.ArbitersInRange.{arbiter_facts}
use Rattle.plain.proofs.DeliveryRoom.{line_most, up_room, down-room}
use Rattle.plain.proofs.LanesInRange.{keeps-all}
use Rattle.plain.proofs.PairSizes.{pair_up, pair_line, pair_down}
use Rattle.plain.proofs.Passed.{requesting, delivering, giving_back, giving_up}
use Rattle.plain.proofs.Range.{ranged}
use Rattle.plain.proofs.Reached.{Reached, call_reached, fresh_reached, calls_reached}
use Rattle.plain.proofs.SendingRoom.{request-room, release-room, withdraw-room}

-- ---- how long lanes and lines are

kept_short : (st : State) → Reached st → KeptShort st
kept_short st r =
    record {
      ups = λ s j. pair_up (r.invariant.pairs s j);
      downs = λ s j. pair_down (r.invariant.pairs s j);
      lines = λ j l.
          let facts = arbiter_facts st.n st.stock (st.arbiter j) ((ranged st r.range).arbiters j l) in
          line_most st.n st.stock (st.arbiter j).line (keeps-all line_places (entry_in st.n st.stock) (st.arbiter j).line facts.line) (λ s. pair_line (r.invariant.pairs s j));
    }

-- "records reached from opening": after every list of calls
pub lanes_kept_short : (n : ℕ) (stock : Units) (table : List ℕ) → broken_limit n (asked_with stock) table ≡ 0 → (calls : List Call) → KeptShort (after (fresh n stock table) calls)
lanes_kept_short n stock table kept calls = kept_short (after (fresh n stock table) calls) (calls_reached n stock table kept calls)

-- ---- which numbers calls answer

-- an answer has the number of its tests
answers_own : (st : State) (x : Returned) (next : State) (r : ℕ) → own_number r ≡ true → own_number (answered st r x next).refusal ≡ true
answers_own st x next r own = answered_as st x next (λ a. own_number a.refusal ≡ true) r (λ z. refl) own

module _ (st : State) (r : Reached st) where
  -- of Up and Down, each with its own test for the room
  delivery_own : (s j : ℕ) (lane : List Message) (full : Message → Bool) → ((m : Message) (rest : List Message) → Delivers st s j lane m rest → full m ≡ false)
      → own_number (delivery_refusal st s j lane full) ≡ true
  unfolding delivery_refusal
  delivery_own s j lane full room =
      number_earlier own_number (take 3 (delivery_tests st s j lane full)) (no_place when oldest full lane) refl (rw r.range)
      (λ k. let (m, rest, d) = delivering st s j lane full k in rw d.taken (room m rest d))

  call_own : (c : Call) → own_number (call st c).refusal ≡ true
  unfolding call request up down release withdraw request_refusal release_refusal withdraw_refusal
  call_own (Call.Request s q h) =
      answers_own st (request_returns st q) (requested st s q h) (request_refusal st s q h)
      (number_earlier own_number (take 5 (request_tests st s q h)) (no_place when request_passes st s q h) refl (rw r.range)
      (λ k. request-room st r.invariant s q h (requesting st s q h k)))
  call_own (Call.Up s j) =
      answers_own st nothing (delivered st s j (st.up s j)) (up_refusal st s j)
      (delivery_own s j (st.up s j) (up_passes st s j) (λ m rest d. up_room st s j m rest d r.invariant))
  call_own (Call.Down s j) =
      answers_own st (returning st s j (st.down s j)) (received st s j (st.down s j)) (down_refusal st s j)
      (delivery_own s j (st.down s j) (down_passes_of st s j) (λ m rest d. down-room st s j rest m d r.invariant))
  call_own (Call.Release s) =
      answers_own st (left_only (held (st.phase s))) (released st s (st.phase s)) (release_refusal st s)
      (number_earlier own_number (take 3 (release_tests st s)) (no_place when back_passes st s (st.phase s)) refl (rw r.range)
      (λ k. let (q, h, g) = giving_back st s k in rw g.holding (release-room st r.invariant s q h g)))
  call_own (Call.Withdraw s) =
      answers_own st nothing (withdrawn st s (st.phase s)) (withdraw_refusal st s)
      (number_earlier own_number (take 3 (withdraw_tests st s)) (no_place when withdraw_passes st s (st.phase s)) refl (rw r.range)
      (λ k. let (q, h, m, w) = giving_up st s k in rw w.collecting (withdraw-room st r.invariant s q h m w)))

reached_own : (st : State) → Reached st → (calls : List Call) → all (λ a. own_number a.refusal) (run st calls) ≡ true
unfolding run
reached_own st r [] = refl
reached_own st r (c ∷ calls) = and_both (call_own st r c) (reached_own (call st c).state (call_reached st c r) calls)

-- a number that is none of them is not met
none-meets : (x : ℕ) → own_number x ≡ false → (answers : List Answer) → all (λ a. own_number a.refusal) answers ≡ true → meets x answers ≡ false
none-meets x other [] e = refl
none-meets x other (a ∷ answers) e =
    let differs : a.refusal ≡ x → ⊥ = λ z. clash (sym (ap own_number z) ∙ and_left (own_number a.refusal) _ e) other in
    rw (ne_eqb a.refusal x differs) (none-meets x other answers (and_right (own_number a.refusal) _ e))

module _ (n : ℕ) (stock : Units) (table : List ℕ) (kept : broken_limit n (asked_with stock) table ≡ 0) (calls : List Call) where
  -- every answer to a list of calls from the fresh state has one of a call's own numbers
  pub own_numbers : all (λ a. own_number a.refusal) (run (fresh n stock table) calls) ≡ true
  own_numbers = reached_own (fresh n stock table) (fresh_reached n stock table kept) calls

  -- "Lists from a fresh record meet neither number."
  pub neither_met : (meets 14 (run (fresh n stock table) calls) ≡ false) × (meets 19 (run (fresh n stock table) calls) ≡ false)
  neither_met = (none-meets 14 refl (run (fresh n stock table) calls) own_numbers, none-meets 19 refl (run (fresh n stock table) calls) own_numbers)
