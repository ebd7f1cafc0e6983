-- Nobody waits on silence: deliveries of messages that exist, what is under way, and who waits for whom.
use Rattle.std.specs.Prelude.{Bool, true, false, cond, not, ◌&&◌, ◌||◌, List, [], ◌∷◌, ◌≡◌, ℕ, ◌+◌, ◌*◌, ◌≤◌, ◌<◌, eqb, ltb, length}
use Rattle.lists.specs.Search.{all, some_below}
use Rattle.units.specs.Units.{no_units}
use Rattle.plain.specs.Answer.{Answer}
use Rattle.plain.specs.Arbiter.{units_in}
use Rattle.plain.specs.Lanes.{is_empty}
use Rattle.plain.specs.Release.{is_holding}
use Rattle.plain.specs.Run.{Call, call, run, after}
use Rattle.plain.specs.State.{State}
use Rattle.plain.specs.Withdraw.{is_collecting}
use Rattle.plain.specs.Withdrawn.{is_withdrawing}
use Rattle.plain.specs.declared.Message.{Message}

-- ---- "deliveries of messages that exist"

-- "Up and Down are its deliveries"
abbrev pub is_up_or_down : Call → Bool
is_up_or_down (Call.Request s q h) = false
is_up_or_down (Call.Up s j) = true
is_up_or_down (Call.Down s j) = true
is_up_or_down (Call.Release s) = false
is_up_or_down (Call.Withdraw s) = false

-- whether a lane between station s and arbiter j, both of the n, has a message
abbrev pub carries : ℕ → ℕ → ℕ → List Message → Bool
carries n s j lane = ltb s n && (ltb j n && not (is_empty lane))

-- whether the call delivers a message that exists
abbrev pub is_delivery : State → Call → Bool
is_delivery st (Call.Request s q h) = false
is_delivery st (Call.Up s j) = carries st.n s j (st.up s j)
is_delivery st (Call.Down s j) = carries st.n s j (st.down s j)
is_delivery st (Call.Release s) = false
is_delivery st (Call.Withdraw s) = false

-- "make only deliveries of messages that exist, chosen in any order": each in the state that the one before led to
unfoldable pub only_deliveries : State → List Call → Bool
only_deliveries st [] = true
only_deliveries st (c ∷ calls) = is_delivery st c && only_deliveries (call st c).state calls

-- whether a call was done, and not refused
abbrev pub is_done : Answer → Bool
is_done a = eqb a.refusal 0

-- how many calls were, by their answers
unfoldable pub done_in : List Answer → ℕ
done_in [] = 0
done_in (a ∷ answers) = cond (is_done a) 1 0 + done_in answers

-- whether of these calls, so answered, all but Up and Down were refused
unfoldable pub others_refused : List Call → List Answer → Bool
others_refused [] answers = true
others_refused (c ∷ calls) [] = true
others_refused (c ∷ calls) (a ∷ answers) = (is_up_or_down c || not (is_done a)) && others_refused calls answers

-- "at most 3 × n × n + 2 × n of them"
abbrev pub most_deliveries : ℕ → ℕ
most_deliveries n = 3 * n * n + 2 * n

-- whether a message is under way, in a lane between two of the n stations
unfoldable pub under_way : State → Bool
under_way st = some_below (λ s. some_below (λ j. not (is_empty (st.up s j)) || not (is_empty (st.down s j))) st.n) st.n

-- ---- who waits for whom

-- Station s waits for station t: it stands in the line of an arbiter that has granted units to t, or waits for a station that waits for t.
pub data WaitsFor (st : State) : ℕ → ℕ → Type 0 where
  granted : {s t : ℕ} (j : ℕ) → j < st.n → (units_in s (st.arbiter j).line ≡ [] → ⊥) → ((st.arbiter j).granted t ≡ no_units → ⊥) → WaitsFor st s t
  behind : {s t u : ℕ} → WaitsFor st s u → WaitsFor st u t → WaitsFor st s t

-- a station other than s, one of the n, that holds, and for which s waits
pub record HeldUp (st : State) (s : ℕ) : Type 0 where
  pub holder : ℕ
  pub station : holder < st.n
  pub another : holder ≡ s → ⊥
  pub holds : is_holding (st.phase holder) ≡ true
  pub waits : WaitsFor st s holder

-- ---- the point, of one state

pub record NobodyWaitsOnSilence (st : State) : Type 0 where
  -- "After at most 3 × n × n + 2 × n of them no message is under way": no list of such deliveries is longer,
  pub few : (calls : List Call) → only_deliveries st calls ≡ true → length calls ≤ most_deliveries st.n
  -- while a message is under way there is such a delivery,
  pub next : under_way st ≡ true → (c : Call) × (is_delivery st c ≡ true)
  -- none is refused,
  pub done : (calls : List Call) → only_deliveries st calls ≡ true → all is_done (run st calls) ≡ true
  -- and so there is a list of them after which none is under way.
  pub rests : (calls : List Call) × (only_deliveries st calls ≡ true) × (under_way (after st calls) ≡ false)
  -- "If a station then still collects, another station holds."
  pub held_up : under_way st ≡ false → (s : ℕ) → s < st.n → is_collecting (st.phase s) ≡ true → HeldUp st s
  -- "withdrawals included": nor does a station wait for GONE
  pub settled : under_way st ≡ false → (s : ℕ) → s < st.n → is_withdrawing (st.phase s) ≡ false
