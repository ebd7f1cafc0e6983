-- Examples of withdrawals on states made by hand: messages that arrive, what is refused, and what is in range.
-- Assumes nothing.
use mathlib.Core.Bool.{Bool, true, false}
use mathlib.Core.List.{List, [], ◌∷◌}
use mathlib.Core.Path.{◌≡◌, refl}
use Prim.Native.Nat.{ℕ}
use Rattle.lists.specs.At.{at}
use Rattle.lists.specs.Counting.{total}
use Rattle.stations.specs.Member.{member}
use Rattle.stations.specs.Sets.{lowest_among, lowest_from}
use Rattle.quorum.specs.Limits.{broken_limit}
use Rattle.units.specs.Units.{no_units, request_in, grant_in, fits, asked_with, units_of, stock_of}
use Rattle.plain.specs.Answer.{answered}
use Rattle.plain.specs.Arbiter.{without, arrived, serve, units_in}
use Rattle.plain.specs.Delivery.{delivery_refusal}
use Rattle.plain.specs.Down.{onward, taken, left, received_as, received, returning, down}
use Rattle.plain.specs.InRange.{goes_up, goes_down, phase_in, entry_in, arbiter_in, in_range}
use Rattle.plain.specs.Lanes.{keeps}
use Rattle.plain.specs.Release.{releasing, release_refusal, given_back, released, release}
use Rattle.plain.specs.Request.{request_refusal, requested, request}
use Rattle.plain.specs.State.{State, fresh}
use Rattle.plain.specs.Up.{replying, granting, delivered_of, delivered, up}
use Rattle.plain.specs.Updates.{with_phase, with_up, with_down}
use Rattle.plain.specs.Withdraw.{withdrawing, withdraw_refusal, given_up, withdrawn, withdraw}
use Rattle.plain.specs.declared.Entry.{Entry}
use Rattle.plain.specs.declared.Message.{Message}
use Rattle.plain.specs.declared.Message.TheVariants.{Request, Release, Grant, Withdraw, Gone}
use Rattle.plain.specs.declared.Phase.{Phase}
use Rattle.plain.specs.declared.Phase.TheVariants.{Idle, Collecting, Holding, Withdrawing}
use Rattle.plain.proofs.HandMade.{with_line_lem, with_grant, done, refuses, Seen, seen}

-- three stations, one unit; the only quorum is {0, 2}
abbrev start : State
start = fresh 3 (stock_of 1) (5 ∷ [])

abbrev entry : ℕ → ℕ → Entry
entry s h = record { station = s; units = units_of h }

-- ---- messages that arrive

-- station 1 in this phase, with these messages in its lane from arbiter 0
abbrev coming : Phase → List Message → State
coming p lane = with_down 1 0 lane (with_phase 1 p start)

pub gone-taken :
    ◌≡◌ {A = List Seen}
    -- an idle, a collecting and a holding station drop GONE, and nothing else changes
    (seen 1 0 (down (coming Idle (Gone ∷ [])) 1 0)
    ∷ seen 1 0 (down (coming (Collecting 0 (units_of 1) 0) (Gone ∷ [])) 1 0)
    ∷ seen 1 0 (down (coming (Holding 0 (units_of 1)) (Gone ∷ [])) 1 0)
    -- a withdrawing station is idle, whatever comes behind GONE
    ∷ seen 1 0 (down (coming Withdrawing (Gone ∷ (Grant ∷ []))) 1 0)
    -- it drops GRANT
    ∷ seen 1 0 (down (coming Withdrawing (Grant ∷ [])) 1 0)
    ∷ [])
    (record { answer = done; phase = Idle; granted = no_units; line = []; up = []; down = [] }
    ∷ record { answer = done; phase = Collecting 0 (units_of 1) 0; granted = no_units; line = []; up = []; down = [] }
    ∷ record { answer = done; phase = Holding 0 (units_of 1); granted = no_units; line = []; up = []; down = [] }
    ∷ record { answer = done; phase = Idle; granted = no_units; line = []; up = []; down = Grant ∷ [] }
    ∷ record { answer = done; phase = Withdrawing; granted = no_units; line = []; up = []; down = [] }
    ∷ [])
unfolding broken_limit member lowest_among lowest_from at total fresh answered arrived without fits serve units_in onward taken left received_as received returning down goes_up goes_down keeps phase_in entry_in arbiter_in in_range releasing release_refusal given_back released release request_refusal requested request withdrawing withdraw_refusal given_up withdrawn withdraw replying granting delivery_refusal delivered_of delivered up units_of stock_of request_in grant_in asked_with
gone-taken = refl

-- three stations, three units, all granted to station 2; WITHDRAW of station 1 arrives at arbiter 0, which has this line
abbrev arriving : List Entry → State
arriving line = with_up 1 0 (Withdraw ∷ []) (with_phase 1 Withdrawing (with_line_lem 0 line (with_grant 0 2 3 (fresh 3 (stock_of 3) (5 ∷ [])))))

pub withdraw_arrives :
    ◌≡◌ {A = List Seen}
    -- both entries of station 1 leave the line, and that of station 0 stays
    (seen 1 0 (up (arriving (entry 1 1 ∷ (entry 0 2 ∷ (entry 1 3 ∷ [])))) 1 0)
    -- its grant is 0, also where it stands in the line besides
    ∷ seen 1 0 (up (with_grant 0 1 2 (arriving (entry 1 1 ∷ []))) 1 0)
    -- and where it does not
    ∷ seen 1 0 (up (with_grant 0 1 2 (arriving [])) 1 0)
    -- the entry behind the one that leaves is served, where it fits: GRANT goes to station 0
    ∷ seen 0 0 (up (with_grant 0 2 2 (arriving (entry 1 3 ∷ (entry 0 1 ∷ [])))) 1 0)
    -- GONE has a place behind one message
    ∷ seen 1 0 (up (with_down 1 0 (Grant ∷ []) (arriving [])) 1 0)
    -- and none behind two: nothing changes
    ∷ seen 1 0 (up (with_down 1 0 (Grant ∷ (Grant ∷ [])) (with_grant 0 1 2 (arriving (entry 1 1 ∷ [])))) 1 0)
    -- the GRANT of the next in line has none: nothing changes
    ∷ seen 1 0 (up (with_down 0 0 (Grant ∷ (Grant ∷ [])) (with_grant 0 1 2 (with_grant 0 2 0 (arriving (entry 0 2 ∷ []))))) 1 0)
    ∷ [])
    (record { answer = done; phase = Withdrawing; granted = no_units; line = entry 0 2 ∷ []; up = []; down = Gone ∷ [] }
    ∷ record { answer = done; phase = Withdrawing; granted = no_units; line = []; up = []; down = Gone ∷ [] }
    ∷ record { answer = done; phase = Withdrawing; granted = no_units; line = []; up = []; down = Gone ∷ [] }
    ∷ record { answer = done; phase = Idle; granted = units_of 1; line = []; up = []; down = Grant ∷ [] }
    ∷ record { answer = done; phase = Withdrawing; granted = no_units; line = []; up = []; down = Grant ∷ (Gone ∷ []) }
    ∷ record { answer = refuses 14; phase = Withdrawing; granted = units_of 2; line = entry 1 1 ∷ []; up = Withdraw ∷ []; down = Grant ∷ (Grant ∷ []) }
    ∷ record { answer = refuses 14; phase = Withdrawing; granted = units_of 2; line = entry 0 2 ∷ []; up = Withdraw ∷ []; down = [] }
    ∷ [])
unfolding broken_limit member lowest_among lowest_from at total fresh answered arrived without fits serve units_in onward taken left received_as received returning down goes_up goes_down keeps phase_in entry_in arbiter_in in_range releasing release_refusal given_back released release request_refusal requested request withdrawing withdraw_refusal given_up withdrawn withdraw replying granting delivery_refusal delivered_of delivered up units_of stock_of request_in grant_in asked_with
withdraw_arrives = refl

-- ---- what is refused, and in which order

abbrev full : List Message
full = Release ∷ (Release ∷ (Release ∷ (Release ∷ [])))

-- station 1 approaches m by the quorum {0, 2}
abbrev approaching : ℕ → State
approaching m = with_phase 1 (Collecting 0 (units_of 1) m) start

pub lanes-full :
    ◌≡◌ {A = List Seen}
    -- the lane of WITHDRAW is full: no RELEASE goes up either
    (seen 1 0 (withdraw (with_up 1 2 full (approaching 2)) 1)
    -- a lane of RELEASE is full: no WITHDRAW goes up either
    ∷ seen 1 2 (withdraw (with_up 1 0 full (approaching 2)) 1)
    -- a full lane to a member above does not matter, nor one to a station that is no member, nor another station's
    ∷ seen 1 0 (withdraw (with_up 1 2 full (approaching 0)) 1)
    ∷ seen 1 2 (withdraw (with_up 1 1 full (approaching 2)) 1)
    ∷ seen 1 0 (withdraw (with_up 0 0 full (approaching 0)) 1)
    -- a station that is no member is approached: WITHDRAW goes there, and RELEASE to the member below
    ∷ seen 1 1 (withdraw (approaching 1) 1)
    ∷ seen 1 0 (withdraw (approaching 1) 1)
    ∷ [])
    (record { answer = refuses 14; phase = Collecting 0 (units_of 1) 2; granted = no_units; line = []; up = []; down = [] }
    ∷ record { answer = refuses 14; phase = Collecting 0 (units_of 1) 2; granted = no_units; line = []; up = []; down = [] }
    ∷ record { answer = done; phase = Withdrawing; granted = no_units; line = []; up = Withdraw ∷ []; down = [] }
    ∷ record { answer = done; phase = Withdrawing; granted = no_units; line = []; up = Withdraw ∷ []; down = [] }
    ∷ record { answer = done; phase = Withdrawing; granted = no_units; line = []; up = Withdraw ∷ []; down = [] }
    ∷ record { answer = done; phase = Withdrawing; granted = no_units; line = []; up = Withdraw ∷ []; down = [] }
    ∷ record { answer = done; phase = Withdrawing; granted = no_units; line = []; up = Release ∷ []; down = [] }
    ∷ [])
unfolding broken_limit member lowest_among lowest_from at total fresh answered arrived without fits serve units_in onward taken left received_as received returning down goes_up goes_down keeps phase_in entry_in arbiter_in in_range releasing release_refusal given_back released release request_refusal requested request withdrawing withdraw_refusal given_up withdrawn withdraw replying granting delivery_refusal delivered_of delivered up units_of stock_of request_in grant_in asked_with
lanes-full = refl

-- with full lanes, station 1 is in this phase
abbrev stuck : Phase → State
stuck p = with_up 1 0 full (with_up 1 2 full (with_phase 1 p start))

pub refused-in-order :
    ◌≡◌ {A = List ℕ}
    -- Withdraw: 19 before 8, 8 before 20, 20 where the station is idle, holds or withdraws, whatever the lanes are, and 14 alone
    ((withdraw (fresh 0 (stock_of 0) []) 0).refusal
    ∷ (withdraw start 3).refusal
    ∷ (withdraw start 1).refusal
    ∷ (withdraw (stuck Idle) 1).refusal
    ∷ (withdraw (stuck (Holding 0 (units_of 1))) 1).refusal
    ∷ (withdraw (stuck Withdrawing) 1).refusal
    ∷ (withdraw (stuck (Collecting 0 (units_of 1) 0)) 1).refusal
    -- a withdrawing station: Request is 11, before 14, and Release is 12
    ∷ (request (stuck Withdrawing) 1 0 (units_of 1)).refusal
    ∷ (release (stuck Withdrawing) 1).refusal
    ∷ [])
    (19 ∷ 8 ∷ 20 ∷ 20 ∷ 20 ∷ 20 ∷ 14 ∷ 11 ∷ 12 ∷ [])
unfolding broken_limit member lowest_among lowest_from at total fresh answered arrived without fits serve units_in onward taken left received_as received returning down goes_up goes_down keeps phase_in entry_in arbiter_in in_range releasing release_refusal given_back released release request_refusal requested request withdrawing withdraw_refusal given_up withdrawn withdraw replying granting delivery_refusal delivered_of delivered up units_of stock_of request_in grant_in asked_with
refused-in-order = refl

-- ---- in range or not

pub withdrawals-in-range :
    ◌≡◌ {A = List Bool}
    -- WITHDRAW up, GONE down, a withdrawing station
    (in_range (with_up 1 2 (Release ∷ (Request (units_of 1) ∷ (Withdraw ∷ (Withdraw ∷ [])))) start)
    ∷ in_range (with_down 1 2 (Grant ∷ (Gone ∷ [])) start)
    ∷ in_range (with_phase 1 Withdrawing start)
    -- WITHDRAW down, GONE up; lanes that are too long
    ∷ in_range (with_down 1 2 (Withdraw ∷ []) start)
    ∷ in_range (with_up 1 2 (Gone ∷ []) start)
    ∷ in_range (with_up 1 2 (Withdraw ∷ full) start)
    ∷ in_range (with_down 1 2 (Grant ∷ (Grant ∷ (Gone ∷ []))) start)
    ∷ [])
    (true ∷ true ∷ true ∷ false ∷ false ∷ false ∷ false ∷ [])
unfolding broken_limit member lowest_among lowest_from at total fresh answered arrived without fits serve units_in onward taken left received_as received returning down goes_up goes_down keeps phase_in entry_in arbiter_in in_range releasing release_refusal given_back released release request_refusal requested request withdrawing withdraw_refusal given_up withdrawn withdraw replying granting delivery_refusal delivered_of delivered up units_of stock_of request_in grant_in asked_with
withdrawals-in-range = refl
