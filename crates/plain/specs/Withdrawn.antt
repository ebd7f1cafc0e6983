-- What is entered at one station, and when it asks again; and the messages of its withdrawal that are under way.
use Rattle.std.specs.Prelude.{Bool, true, false, cond, ◌&&◌, ◌||◌, List, [], ◌∷◌, ℕ, ◌+◌, eqb}
use Rattle.lists.specs.Counting.{total}
use Rattle.units.specs.Units.{Amount, amount}
use Rattle.plain.specs.Run.{Call, call}
use Rattle.plain.specs.State.{State}
use Rattle.plain.specs.declared.Message.{Message}
use Rattle.plain.specs.declared.Message.TheVariants.{Request, Release, Grant, Withdraw, Gone}
use Rattle.plain.specs.declared.Phase.{Phase}
use Rattle.plain.specs.declared.Phase.TheVariants.{Idle, Collecting, Holding, Withdrawing}

-- ---- "a withdrawn request enters none"

-- whose call it is
abbrev pub station_of : Call → ℕ
station_of (Call.Request s q h) = s
station_of (Call.Up s j) = s
station_of (Call.Down s j) = s
station_of (Call.Release s) = s
station_of (Call.Withdraw s) = s

-- the amount that a call enters at station s: none, if it is another's call
abbrev pub enters_at : Amount → ℕ → State → Call → ℕ
enters_at a s st c = cond (eqb (station_of c) s) (amount a (call st c).entered) 0

-- and a list of calls
unfoldable pub entered_at : Amount → ℕ → State → List Call → ℕ
entered_at a s st [] = 0
entered_at a s st (c ∷ calls) = enters_at a s st c + entered_at a s (call st c).state calls

abbrev pub is_request : Call → Bool
is_request (Call.Request s q h) = true
is_request (Call.Up s j) = false
is_request (Call.Down s j) = false
is_request (Call.Release s) = false
is_request (Call.Withdraw s) = false

-- whether the call is a Request of station s that is not refused
abbrev pub asks : ℕ → State → Call → Bool
asks s st c = is_request c && (eqb (station_of c) s && eqb (call st c).refusal 0)

-- whether one of a list of calls is
unfoldable pub asks_again : ℕ → State → List Call → Bool
asks_again s st [] = false
asks_again s st (c ∷ calls) = asks s st c || asks_again s (call st c).state calls

-- ---- WITHDRAW and GONE under way

abbrev pub is_withdrawing : Phase → Bool
is_withdrawing Idle = false
is_withdrawing (Collecting q h m) = false
is_withdrawing (Holding q h) = false
is_withdrawing Withdrawing = true

-- whether the message is WITHDRAW or GONE
abbrev pub of_withdrawal : Message → Bool
of_withdrawal (Request h) = false
of_withdrawal Release = false
of_withdrawal Grant = false
of_withdrawal Withdraw = true
of_withdrawal Gone = true

-- how many of these a lane has
abbrev pub withdrawals_in : List Message → ℕ
withdrawals_in [] = 0
withdrawals_in (m ∷ lane) = cond (of_withdrawal m) 1 0 + withdrawals_in lane

-- how many the lanes of station s have, up to the n arbiters and down from them
abbrev pub withdrawals_of : State → ℕ → ℕ
withdrawals_of st s = total (λ j. withdrawals_in (st.up s j) + withdrawals_in (st.down s j)) st.n
