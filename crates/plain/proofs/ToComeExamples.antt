-- Examples of the members still to come.
-- Assumes nothing.
use mathlib.Core.List.{List, [], ◌∷◌, ◌++◌, map}
use mathlib.Core.Path.{◌≡◌, refl}
use Prim.Native.Nat.{ℕ}
use Rattle.lists.specs.At.{at}
use Rattle.lists.specs.Counting.{how_many, total}
use Rattle.stations.specs.Member.{member}
use Rattle.stations.specs.Sets.{lowest_among, lowest_from, members_from}
use Rattle.quorum.specs.Limits.{broken_limit}
use Rattle.units.specs.Units.{request_in, grant_in, fits, asked_with, units_of, stock_of}
use Rattle.plain.specs.Answer.{Answer, answered}
use Rattle.plain.specs.Arbiter.{without, arrived, serve, units_in}
use Rattle.plain.specs.Delivery.{delivery_refusal}
use Rattle.plain.specs.Down.{onward, taken, left, received_as, received, returning, down}
use Rattle.plain.specs.Exceeding.{visits, collects}
use Rattle.plain.specs.InRange.{goes_up, goes_down, phase_in, entry_in, arbiter_in, in_range}
use Rattle.plain.specs.Lanes.{keeps}
use Rattle.plain.specs.Release.{releasing, release_refusal, given_back, released, release}
use Rattle.plain.specs.Request.{request_refusal, requested, request}
use Rattle.plain.specs.Run.{Call, call, run}
use Rattle.plain.specs.State.{State, fresh}
use Rattle.plain.specs.StillToCome.{told}
use Rattle.plain.specs.Up.{replying, granting, delivered_of, delivered, up}
use Rattle.plain.specs.Updates.{with_phase, with_up, with_down}
use Rattle.plain.specs.Withdraw.{withdrawing, withdraw_refusal, given_up, withdrawn, withdraw}
use Rattle.plain.specs.declared.Message.TheVariants.{Release, Grant}
use Rattle.plain.specs.declared.Phase.TheVariants.{Collecting, Holding}

-- six stations, one unit; the quorums are {0, 1, 2, 4, 5} and {3}
abbrev start : State
start = fresh 6 (stock_of 1) (55 ∷ (8 ∷ []))

abbrev aboves : List Answer → List ℕ
aboves answers = map (λ a. a.above) answers

-- station 3 collects from its five members, Up and Down at each, and gives back
abbrev five : List Call
five = collects 6 (55 ∷ (8 ∷ [])) 3 0 (units_of 1) ++ (Call.Release 3 ∷ [])

pub counted :
    ◌≡◌ {A = List (List ℕ)}
    -- four members lie above the lowest; at each Down one less; Up, the Down that enters and Release return 0
    (aboves (run start five)
    -- station 3 is told 4, 3, 2, 1, 0; station 0, which makes no call, nothing
    ∷ told 3 start five
    ∷ told 0 start five
    -- one member: none lies above it
    ∷ aboves (run start (Call.Request 3 1 (units_of 1) ∷ []))
    -- two Requests that are refused, and a Down on an empty lane
    ∷ aboves (run start (Call.Request 3 0 (units_of 2) ∷ Call.Request 6 0 (units_of 1) ∷ Call.Down 3 0 ∷ []))
    -- the station withdraws after one member: Withdraw returns 0, and so do the GONE that makes it idle, and the Downs before and behind it
    ∷ aboves (run start (Call.Request 3 0 (units_of 1) ∷ Call.Up 3 0 ∷ Call.Down 3 0 ∷ Call.Withdraw 3 ∷ Call.Up 3 1 ∷ Call.Up 3 1 ∷ Call.Down 3 1 ∷ Call.Down 3 1 ∷ Call.Down 3 1 ∷ []))
    ∷ [])
    ((4 ∷ 0 ∷ 3 ∷ 0 ∷ 2 ∷ 0 ∷ 1 ∷ 0 ∷ 0 ∷ 0 ∷ 0 ∷ 0 ∷ [])
    ∷ (4 ∷ 3 ∷ 2 ∷ 1 ∷ 0 ∷ [])
    ∷ []
    ∷ (0 ∷ [])
    ∷ (0 ∷ 0 ∷ 0 ∷ [])
    ∷ (4 ∷ 0 ∷ 3 ∷ 0 ∷ 0 ∷ 0 ∷ 0 ∷ 0 ∷ 0 ∷ [])
    ∷ [])
unfolding broken_limit member lowest_among lowest_from members_from how_many at total fresh answered arrived without fits serve units_in onward taken left received_as received returning down goes_up goes_down keeps phase_in entry_in arbiter_in in_range releasing release_refusal given_back released release request_refusal requested request withdrawing withdraw_refusal given_up withdrawn withdraw call run visits collects told replying granting delivery_refusal delivered_of delivered up units_of stock_of request_in grant_in asked_with
counted = refl

-- station 3 collects from 1, and GRANT of 1 has come down; and the same with the lane to the next member full
abbrev granted : State
granted = with_down 3 1 (Grant ∷ []) (with_phase 3 (Collecting 0 (units_of 1) 1) start)

abbrev full : State
full = with_up 3 2 (Release ∷ Release ∷ Release ∷ Release ∷ []) granted

pub by_hand :
    ◌≡◌ {A = List ℕ}
    -- REQUEST goes on to 2, with 4 and 5 above it; there is no place for it: refused, and 0; and the same two of Request, with the lane to 0
    ((down granted 3 1).above
    ∷ (down full 3 1).above
    ∷ (request (with_up 3 0 (Release ∷ Release ∷ Release ∷ []) start) 3 0 (units_of 1)).above
    ∷ (request (with_up 3 0 (Release ∷ Release ∷ Release ∷ Release ∷ []) start) 3 0 (units_of 1)).above
    -- it collects from 3, which is no member: REQUEST goes on to 4, with 5 above it
    ∷ (down (with_down 3 3 (Grant ∷ []) (with_phase 3 (Collecting 0 (units_of 1) 3) start)) 3 3).above
    -- it collects from another, or holds: GRANT is dropped
    ∷ (down (with_phase 3 (Collecting 0 (units_of 1) 0) granted) 3 1).above
    ∷ (down (with_phase 3 (Holding 0 (units_of 1)) granted) 3 1).above
    ∷ [])
    (2 ∷ 0 ∷ 4 ∷ 0 ∷ 1 ∷ 0 ∷ 0 ∷ [])
unfolding broken_limit member lowest_among lowest_from members_from how_many at total fresh answered arrived fits serve units_in onward taken received_as received returning down goes_up goes_down keeps phase_in entry_in arbiter_in in_range request_refusal requested request delivery_refusal units_of stock_of request_in grant_in asked_with
by_hand = refl
