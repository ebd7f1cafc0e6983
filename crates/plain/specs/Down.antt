-- The call Down: a message of an arbiter reaches a station.
use Rattle.std.specs.Prelude.{Bool, false, cond, List, [], ◌∷◌, ℕ, suc, eqb, ltb}
use Rattle.lists.specs.At.{at}
use Rattle.lists.specs.Broken.{Test}
use Rattle.stations.specs.Sets.{places, lowest_from}
use Rattle.quorum.specs.Family.{quorum}
use Rattle.units.specs.Units.{no_units}
use Rattle.units.specs.declared.Units.{Units}
use Rattle.plain.specs.Answer.{Answer, Returned, nothing, answered}
use Rattle.plain.specs.Asking.{to_come, ask_passes, asking}
use Rattle.plain.specs.Delivery.{delivery_tests, delivery_refusal}
use Rattle.plain.specs.State.{State}
use Rattle.plain.specs.Updates.{with_phases, with_ups, with_down}
use Rattle.plain.specs.declared.Message.{Message}
use Rattle.plain.specs.declared.Message.TheVariants.{Request, Release, Grant, Withdraw, Gone}
use Rattle.plain.specs.declared.Phase.{Phase}
use Rattle.plain.specs.declared.Phase.TheVariants.{Idle, Collecting, Holding, Withdrawing}

-- what a station makes of a message: it asks the next member of its quorum for its units, it holds its units, it is idle, or it drops the
-- message
pub data Taken : Type 0 where
  asks : (quorum : ℕ) (units : Units) (member : ℕ) → Taken
  holds : (quorum : ℕ) (units : Units) → Taken
  idles : Taken
  drops : Taken

-- "with a higher member left, REQUEST(h) goes up to the lowest such member; otherwise s holds"
unfoldable pub onward : List ℕ → ℕ → Units → ℕ → Taken
onward table q h j = cond (ltb (lowest_from (quorum table q) (suc j)) places) (Taken.asks q h (lowest_from (quorum table q) (suc j))) (Taken.holds q h)

-- "If s is collecting from j .. In every other case GRANT is dropped." "A withdrawing station drops GRANT"
unfoldable pub taken : List ℕ → ℕ → Phase → Taken
taken table j Idle = Taken.drops
taken table j (Collecting q h m) = cond (eqb m j) (onward table q h j) Taken.drops
taken table j (Holding q h) = Taken.drops
taken table j Withdrawing = Taken.drops

-- "GONE makes it idle; any other station drops GONE"
unfoldable pub left : Phase → Taken
left Idle = Taken.drops
left (Collecting q h m) = Taken.drops
left (Holding q h) = Taken.drops
left Withdrawing = Taken.idles

-- what a station in this phase makes of a message from j (No down lane in range has a REQUEST, a RELEASE or a WITHDRAW.)
abbrev pub made_of : List ℕ → ℕ → Phase → Message → Taken
made_of table j p (Request h) = Taken.drops
made_of table j p Release = Taken.drops
made_of table j p Withdraw = Taken.drops
made_of table j p Grant = taken table j p
made_of table j p Gone = left p

-- what station s makes of it
abbrev pub taken_at : State → ℕ → ℕ → Message → Taken
taken_at st s j m = made_of st.table j (st.phase s) m

-- "otherwise s holds and h units are entered"
abbrev pub enters : Taken → Units
enters (Taken.asks q h m) = no_units
enters (Taken.holds q h) = h
enters Taken.idles = no_units
enters Taken.drops = no_units

-- "after sending REQUEST, the number of members above the addressee; otherwise 0"
abbrev pub comes : State → Taken → ℕ
comes st (Taken.asks q h m) = to_come st q m
comes st (Taken.holds q h) = 0
comes st Taken.idles = 0
comes st Taken.drops = 0

-- what Down returns then
abbrev pub returned : State → Taken → Returned
returned st t = record { entered = enters t; left = no_units; above = comes st t }

-- "a lane .. would pass its limit": only REQUEST takes a place
abbrev pub down_passes : State → ℕ → Taken → Bool
down_passes st s (Taken.asks q h m) = ask_passes st s h m
down_passes st s (Taken.holds q h) = false
down_passes st s Taken.idles = false
down_passes st s Taken.drops = false

-- of the message m
abbrev pub down_passes_of : State → ℕ → ℕ → Message → Bool
down_passes_of st s j m = down_passes st s (taken_at st s j m)

-- 19; 8; 13; 14
abbrev pub down_tests : State → ℕ → ℕ → List Test
down_tests st s j = delivery_tests st s j (st.down s j) (down_passes_of st s j)

abbrev pub down_refusal : State → ℕ → ℕ → ℕ
down_refusal st s j = delivery_refusal st s j (st.down s j) (down_passes_of st s j)

-- what the station does then
abbrev pub phase_then : State → ℕ → Taken → ℕ → Phase
phase_then st s (Taken.asks q h m) = (asking st s q h m).phase
phase_then st s (Taken.holds q h) = at st.phase s (Holding q h)
phase_then st s Taken.idles = at st.phase s Idle
phase_then st s Taken.drops = st.phase

-- and its lanes up
abbrev pub up_then : State → ℕ → Taken → ℕ → ℕ → List Message
up_then st s (Taken.asks q h m) = (asking st s q h m).up
up_then st s (Taken.holds q h) = st.up
up_then st s Taken.idles = st.up
up_then st s Taken.drops = st.up

-- "takes the oldest message": the rest of the lane stays, and the station has made this of the message
unfoldable pub received_as : State → ℕ → ℕ → List Message → Taken → State
received_as st s j rest t = with_phases (phase_then st s t) (with_ups (up_then st s t) (with_down s j rest st))

unfoldable pub received : State → ℕ → ℕ → List Message → State
received st s j [] = st
received st s j (m ∷ rest) = received_as st s j rest (taken_at st s j m)

-- what Down returns of the lane's oldest message
unfoldable pub returning : State → ℕ → ℕ → List Message → Returned
returning st s j [] = nothing
returning st s j (m ∷ rest) = returned st (taken_at st s j m)

-- Down(s, j)
unfoldable pub down : State → ℕ → ℕ → Answer
down st s j = answered st (down_refusal st s j) (returning st s j (st.down s j)) (received st s j (st.down s j))
