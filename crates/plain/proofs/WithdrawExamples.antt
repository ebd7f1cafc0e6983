-- Examples of withdrawals, by calls from a fresh state.
-- Assumes nothing.
use mathlib.Core.Bool.{Bool, true, false}
use mathlib.Core.List.{List, [], ◌∷◌, map}
use mathlib.Core.Path.{◌≡◌, refl}
use Prim.Native.Nat.{ℕ}
use lib.ListN.{replicate, take, drop}
use Rattle.lists.specs.At.{at}
use Rattle.lists.specs.Counting.{total}
use Rattle.stations.specs.Member.{member}
use Rattle.stations.specs.Sets.{lowest_among, lowest_from}
use Rattle.quorum.specs.Limits.{broken_limit}
use Rattle.units.specs.Units.{no_units, request_in, grant_in, fits, amount, asked_with, units_of, stock_of, numbered}
use Rattle.plain.specs.Answer.{answered}
use Rattle.plain.specs.Arbiter.{without, arrived, serve, units_in}
use Rattle.plain.specs.Delivery.{delivery_refusal}
use Rattle.plain.specs.Down.{onward, taken, left, received_as, received, returning, down}
use Rattle.plain.specs.InRange.{goes_up, goes_down, phase_in, entry_in, arbiter_in, in_range}
use Rattle.plain.specs.Lanes.{keeps}
use Rattle.plain.specs.Release.{releasing, release_refusal, given_back, released, release}
use Rattle.plain.specs.Request.{request_refusal, requested, request}
use Rattle.plain.specs.Run.{Call, call, run, after}
use Rattle.plain.specs.State.{State, fresh}
use Rattle.plain.specs.Up.{replying, granting, delivered_of, delivered, up}
use Rattle.plain.specs.Withdraw.{withdrawing, withdraw_refusal, given_up, withdrawn, withdraw}
use Rattle.plain.specs.Withdrawn.{entered_at, asks_again, withdrawals_of}
use Rattle.plain.specs.declared.Entry.{Entry}
use Rattle.plain.specs.declared.Message.TheVariants.{Request, Release, Grant, Withdraw, Gone}
use Rattle.plain.specs.declared.Phase.TheVariants.{Idle, Collecting, Withdrawing}
use Rattle.plain.proofs.HandMade.{said, done, enters, leaves, Seen, seen}

-- three stations, one unit; the quorums are {0, 2} and all three
abbrev start : State
start = fresh 3 (stock_of 1) (5 ∷ (7 ∷ []))

abbrev entry : ℕ → ℕ → Entry
entry s h = record { station = s; units = units_of h }

-- what is seen of station s and arbiter j at each call of a list, made after the calls before
abbrev watched : ℕ → ℕ → List Call → List Call → List Seen
watched s j before calls = map (seen s j) (run (after start before) calls)

-- station 1 withdraws while it stands in line, behind station 0, which is granted the unit
pub withdrawn-in-line :
    watched 1 0 (Call.Request 0 0 (units_of 1) ∷ Call.Up 0 0 ∷ Call.Request 1 0 (units_of 1) ∷ Call.Up 1 0 ∷ []) (Call.Withdraw 1 ∷ Call.Up 1 0 ∷ Call.Down 1 0 ∷ [])
    -- WITHDRAW is under way, and the arbiter does not know of it yet
    ≡ record { answer = done; phase = Withdrawing; granted = no_units; line = entry 1 1 ∷ []; up = Withdraw ∷ []; down = [] }
    -- it arrives: the entry has left the line, and GONE goes down
    ∷ record { answer = done; phase = Withdrawing; granted = no_units; line = []; up = []; down = Gone ∷ [] }
    -- GONE makes the station idle
    ∷ record { answer = done; phase = Idle; granted = no_units; line = []; up = []; down = [] }
    ∷ []
unfolding broken_limit member lowest_among lowest_from at total fresh answered arrived without fits serve units_in onward taken left received_as received returning down goes_up goes_down keeps phase_in entry_in arbiter_in in_range releasing release_refusal given_back released release request_refusal requested request withdrawing withdraw_refusal given_up withdrawn withdraw call run after replying granting delivery_refusal delivered_of delivered up units_of stock_of request_in grant_in asked_with
withdrawn-in-line = refl

-- station 1 withdraws while GRANT is under way to it
pub withdrawn-when-granted :
    watched 1 0 (Call.Request 1 0 (units_of 1) ∷ Call.Up 1 0 ∷ []) (Call.Withdraw 1 ∷ Call.Down 1 0 ∷ Call.Up 1 0 ∷ Call.Down 1 0 ∷ [])
    ≡ record { answer = done; phase = Withdrawing; granted = units_of 1; line = []; up = Withdraw ∷ []; down = Grant ∷ [] }
    -- GRANT is dropped: nothing is entered
    ∷ record { answer = done; phase = Withdrawing; granted = units_of 1; line = []; up = Withdraw ∷ []; down = [] }
    -- WITHDRAW arrives: the grant is 0
    ∷ record { answer = done; phase = Withdrawing; granted = no_units; line = []; up = []; down = Gone ∷ [] }
    ∷ record { answer = done; phase = Idle; granted = no_units; line = []; up = []; down = [] }
    ∷ []
unfolding broken_limit member lowest_among lowest_from at total fresh answered arrived without fits serve units_in onward taken left received_as received returning down goes_up goes_down keeps phase_in entry_in arbiter_in in_range releasing release_refusal given_back released release request_refusal requested request withdrawing withdraw_refusal given_up withdrawn withdraw call run after replying granting delivery_refusal delivered_of delivered up units_of stock_of request_in grant_in asked_with
withdrawn-when-granted = refl

-- the same, but WITHDRAW arrives before GRANT is taken: GONE stands behind GRANT
pub gone-behind-grant :
    watched 1 0 (Call.Request 1 0 (units_of 1) ∷ Call.Up 1 0 ∷ Call.Withdraw 1 ∷ []) (Call.Up 1 0 ∷ Call.Down 1 0 ∷ Call.Down 1 0 ∷ [])
    ≡ record { answer = done; phase = Withdrawing; granted = no_units; line = []; up = []; down = Grant ∷ (Gone ∷ []) }
    ∷ record { answer = done; phase = Withdrawing; granted = no_units; line = []; up = []; down = Gone ∷ [] }
    ∷ record { answer = done; phase = Idle; granted = no_units; line = []; up = []; down = [] }
    ∷ []
unfolding broken_limit member lowest_among lowest_from at total fresh answered arrived without fits serve units_in onward taken left received_as received returning down goes_up goes_down keeps phase_in entry_in arbiter_in in_range releasing release_refusal given_back released release request_refusal requested request withdrawing withdraw_refusal given_up withdrawn withdraw call run after replying granting delivery_refusal delivered_of delivered up units_of stock_of request_in grant_in asked_with
gone-behind-grant = refl

-- station 1 held, gave back and asked again, and withdraws before RELEASE has arrived
abbrev held_before : List Call
held_before = Call.Request 1 0 (units_of 1) ∷ Call.Up 1 0 ∷ Call.Down 1 0 ∷ Call.Up 1 2 ∷ Call.Down 1 2 ∷ Call.Release 1 ∷ Call.Request 1 0 (units_of 1) ∷ []

pub withdrawn-behind-release :
    watched 1 0 held_before (Call.Withdraw 1 ∷ Call.Up 1 0 ∷ Call.Up 1 0 ∷ Call.Up 1 0 ∷ Call.Down 1 0 ∷ Call.Down 1 0 ∷ [])
    -- RELEASE, REQUEST and WITHDRAW in one lane
    ≡ record { answer = done; phase = Withdrawing; granted = units_of 1; line = []; up = Release ∷ (Request (units_of 1) ∷ (Withdraw ∷ [])); down = [] }
    ∷ record { answer = done; phase = Withdrawing; granted = no_units; line = []; up = Request (units_of 1) ∷ (Withdraw ∷ []); down = [] }
    -- the REQUEST is granted, since its withdrawal is still under way
    ∷ record { answer = done; phase = Withdrawing; granted = units_of 1; line = []; up = Withdraw ∷ []; down = Grant ∷ [] }
    ∷ record { answer = done; phase = Withdrawing; granted = no_units; line = []; up = []; down = Grant ∷ (Gone ∷ []) }
    ∷ record { answer = done; phase = Withdrawing; granted = no_units; line = []; up = []; down = Gone ∷ [] }
    ∷ record { answer = done; phase = Idle; granted = no_units; line = []; up = []; down = [] }
    ∷ []
unfolding broken_limit member lowest_among lowest_from at total fresh answered arrived without fits serve units_in onward taken left received_as received returning down goes_up goes_down keeps phase_in entry_in arbiter_in in_range releasing release_refusal given_back released release request_refusal requested request withdrawing withdraw_refusal given_up withdrawn withdraw call run after replying granting delivery_refusal delivered_of delivered up units_of stock_of request_in grant_in asked_with
withdrawn-behind-release = refl

-- station 1 asks by all three, has the GRANT of 0 and withdraws from 1
abbrev at_second : State
at_second = after start (Call.Request 1 1 (units_of 1) ∷ Call.Up 1 0 ∷ Call.Down 1 0 ∷ [])

pub withdrawn-at-second :
    ◌≡◌ {A = List Seen}
    -- RELEASE goes to 0, the member below
    (seen 1 0 (call at_second (Call.Withdraw 1))
    -- WITHDRAW goes to 1, the member now approached
    ∷ seen 1 1 (call at_second (Call.Withdraw 1))
    -- nothing goes to 2, the member above
    ∷ seen 1 2 (call at_second (Call.Withdraw 1))
    ∷ [])
    (record { answer = done; phase = Withdrawing; granted = units_of 1; line = []; up = Release ∷ []; down = [] }
    ∷ record { answer = done; phase = Withdrawing; granted = no_units; line = []; up = Request (units_of 1) ∷ (Withdraw ∷ []); down = [] }
    ∷ record { answer = done; phase = Withdrawing; granted = no_units; line = []; up = []; down = [] }
    ∷ [])
unfolding broken_limit member lowest_among lowest_from at total fresh answered arrived without fits serve units_in onward taken left received_as received returning down goes_up goes_down keeps phase_in entry_in arbiter_in in_range releasing release_refusal given_back released release request_refusal requested request withdrawing withdraw_refusal given_up withdrawn withdraw call run after replying granting delivery_refusal delivered_of delivered up units_of stock_of request_in grant_in asked_with
withdrawn-at-second = refl

-- station 0 is granted the unit, station 1 waits for it, and station 0 withdraws: as WITHDRAW arrives the line is served
pub next-is-served :
    watched 1 0 (Call.Request 0 0 (units_of 1) ∷ Call.Up 0 0 ∷ Call.Request 1 0 (units_of 1) ∷ Call.Up 1 0 ∷ []) (Call.Withdraw 0 ∷ Call.Up 0 0 ∷ Call.Down 1 0 ∷ [])
    ≡ record { answer = done; phase = Collecting 0 (units_of 1) 0; granted = no_units; line = entry 1 1 ∷ []; up = []; down = [] }
    -- GRANT goes to station 1
    ∷ record { answer = done; phase = Collecting 0 (units_of 1) 0; granted = units_of 1; line = []; up = []; down = Grant ∷ [] }
    ∷ record { answer = done; phase = Collecting 0 (units_of 1) 2; granted = units_of 1; line = []; up = []; down = [] }
    ∷ []
unfolding broken_limit member lowest_among lowest_from at total fresh answered arrived without fits serve units_in onward taken left received_as received returning down goes_up goes_down keeps phase_in entry_in arbiter_in in_range releasing release_refusal given_back released release request_refusal requested request withdrawing withdraw_refusal given_up withdrawn withdraw call run after replying granting delivery_refusal delivered_of delivered up units_of stock_of request_in grant_in asked_with
next-is-served = refl

-- station 1 asks and withdraws; by GONE, behind the GRANT that it drops, it is idle; it asks again, holds and gives back
abbrev twice : List Call
twice =
    Call.Request 1 0 (units_of 1)
    ∷ Call.Up 1 0
    ∷ Call.Withdraw 1
    ∷ Call.Up 1 0
    ∷ Call.Down 1 0
    ∷ Call.Down 1 0
    ∷ Call.Request 1 0 (units_of 1)
    ∷ Call.Up 1 0
    ∷ Call.Down 1 0
    ∷ Call.Up 1 2
    ∷ Call.Down 1 2
    ∷ Call.Release 1
    ∷ []

pub asks_twice : map said (run start twice) ≡ done ∷ done ∷ done ∷ done ∷ done ∷ done ∷ done ∷ done ∷ done ∷ done ∷ enters 1 ∷ leaves 1 ∷ []
unfolding broken_limit member lowest_among lowest_from at total fresh answered arrived without fits serve units_in onward taken left received_as received returning down goes_up goes_down keeps phase_in entry_in arbiter_in in_range releasing release_refusal given_back released release request_refusal requested request withdrawing withdraw_refusal given_up withdrawn withdraw call run after replying granting delivery_refusal delivered_of delivered up units_of stock_of request_in grant_in asked_with
asks_twice = refl

pub counted :
    ◌≡◌ {A = List (List ℕ)}
    -- WITHDRAW or GONE of station 1 is under way from its Withdraw until it is idle; and none of station 0 ever
    (map (λ x. withdrawals_of x.state 1) (run start twice)
    ∷ map (λ x. withdrawals_of x.state 0) (run start twice)
    -- a unit is entered at station 1, by all calls and by those from its second Request on; by those before none; and none at station 0
    ∷ (entered_at numbered 1 start twice
    ∷ entered_at numbered 1 (after start (take 6 twice)) (drop 6 twice)
    ∷ entered_at numbered 1 start (take 6 twice)
    ∷ entered_at numbered 0 start twice
    ∷ [])
    ∷ [])
    ((0 ∷ 0 ∷ 1 ∷ 1 ∷ 1 ∷ 0 ∷ 0 ∷ 0 ∷ 0 ∷ 0 ∷ 0 ∷ 0 ∷ []) ∷ replicate 12 0 ∷ (1 ∷ 1 ∷ 0 ∷ 0 ∷ []) ∷ [])
unfolding broken_limit member lowest_among lowest_from at total fresh answered arrived without fits serve units_in onward taken left received_as received returning down goes_up goes_down keeps phase_in entry_in arbiter_in in_range releasing release_refusal given_back released release request_refusal requested request withdrawing withdraw_refusal given_up withdrawn withdraw call run after replying granting delivery_refusal delivered_of delivered up units_of stock_of request_in grant_in asked_with entered_at amount numbered
counted = refl

-- behind its first Request station 1 asks again
pub asked-anew :
    ◌≡◌ {A = List Bool}
    -- by the second
    (asks_again 1 (after start (take 1 twice)) (drop 1 twice)
    -- not before
    ∷ asks_again 1 (after start (take 1 twice)) (take 5 (drop 1 twice))
    -- not by a Request that is refused, nor by another station's
    ∷ asks_again 1 (after start (take 1 twice)) (Call.Request 1 0 (units_of 1) ∷ Call.Request 0 0 (units_of 1) ∷ [])
    ∷ [])
    (true ∷ false ∷ false ∷ [])
unfolding broken_limit member lowest_among lowest_from at total fresh answered arrived without fits serve units_in onward taken left received_as received returning down goes_up goes_down keeps phase_in entry_in arbiter_in in_range releasing release_refusal given_back released release request_refusal requested request withdrawing withdraw_refusal given_up withdrawn withdraw call run after replying granting delivery_refusal delivered_of delivered up units_of stock_of request_in grant_in asked_with asks_again
asked-anew = refl
