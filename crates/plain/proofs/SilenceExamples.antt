-- Examples of deliveries that come to an end, and of what holds then, by calls from a fresh state.
-- Assumes nothing.
use mathlib.Core.Bool.{Bool, true, false}
use mathlib.Core.List.{List, [], ◌∷◌, ◌++◌, map, cons≢nil}
use mathlib.Core.Path.{◌≡◌, refl, ap}
use Prim.Native.Nat.{ℕ}
use native.Mathlib.Omega.{arith}
use lib.ListN.{length}
use Rattle.lists.specs.At.{at}
use Rattle.lists.specs.Counting.{total}
use Rattle.stations.specs.Member.{member}
use Rattle.stations.specs.Sets.{lowest_among, lowest_from}
use Rattle.quorum.specs.Limits.{broken_limit}
use Rattle.units.specs.Units.{request_in, grant_in, fits, amount, asked_with, units_of, stock_of, numbered}
use Rattle.plain.specs.Answer.{answered}
use Rattle.plain.specs.Arbiter.{without, arrived, serve, units_in}
use Rattle.plain.specs.Delivery.{delivery_refusal}
use Rattle.plain.specs.Down.{onward, taken, left, received_as, received, returning, down}
use Rattle.plain.specs.InRange.{goes_up, goes_down, phase_in, entry_in, arbiter_in, in_range}
use Rattle.plain.specs.Lanes.{keeps}
use Rattle.plain.specs.Release.{releasing, release_refusal, given_back, released, release}
use Rattle.plain.specs.Request.{request_refusal, requested, request}
use Rattle.plain.specs.Run.{Call, call, after}
use Rattle.plain.specs.Silence.{only_deliveries, most_deliveries, under_way, WaitsFor}
use Rattle.plain.specs.State.{State, fresh}
use Rattle.plain.specs.Up.{replying, granting, delivered_of, delivered, up}
use Rattle.plain.specs.Withdraw.{withdrawing, withdraw_refusal, given_up, withdrawn, withdraw}
use Rattle.plain.specs.declared.Phase.{Phase}
use Rattle.plain.specs.declared.Phase.TheVariants.{Idle, Collecting, Holding}

-- of a list of calls made in a state: whether each delivers a message that exists, how many they are, whether a message is under way after
-- them, and what these stations do then
pub record Brought : Type 0 where
  pub only : Bool
  pub many : ℕ
  pub more : Bool
  pub phases : List Phase

abbrev brought : List ℕ → State → List Call → Brought
brought stations st calls = record { only = only_deliveries st calls; many = length calls; more = under_way (after st calls); phases = map (after st calls).phase stations }

-- ---- as many as there can be

-- one station: it held and gave back, asked again and withdrew, and no message has arrived since
abbrev alone : State
alone = after (fresh 1 (stock_of 1) (1 ∷ [])) (Call.Request 0 0 (units_of 1) ∷ Call.Up 0 0 ∷ Call.Down 0 0 ∷ Call.Release 0 ∷ Call.Request 0 0 (units_of 1) ∷ Call.Withdraw 0 ∷ [])

pub five :
    brought (0 ∷ []) alone
    -- RELEASE arrives,
    (Call.Up 0 0
    -- REQUEST, and is granted,
    ∷ Call.Up 0 0
    -- GRANT, and is dropped,
    ∷ Call.Down 0 0
    -- WITHDRAW,
    ∷ Call.Up 0 0
    -- and GONE
    ∷ Call.Down 0 0
    ∷ [])
    ≡ record { only = true; many = most_deliveries 1; more = false; phases = Idle ∷ [] }
unfolding broken_limit member lowest_among lowest_from at total fresh answered arrived without fits serve units_in onward taken left received_as received returning down goes_up goes_down keeps phase_in entry_in arbiter_in in_range releasing release_refusal given_back released release request_refusal requested request withdrawing withdraw_refusal given_up withdrawn withdraw call after replying granting delivery_refusal delivered_of delivered up units_of stock_of request_in grant_in asked_with only_deliveries under_way
five = refl

-- two stations, each of which asks both: each held and gave back, and asked again, and no message has arrived since
abbrev again : ℕ → List Call
again s = Call.Request s 0 (units_of 1) ∷ Call.Up s 0 ∷ Call.Down s 0 ∷ Call.Up s 1 ∷ Call.Down s 1 ∷ Call.Release s ∷ Call.Request s 0 (units_of 1) ∷ []

abbrev both : State
both = after (fresh 2 (stock_of 2) (3 ∷ [])) (again 0 ++ again 1)

-- 3 × n × n: more there are not, with two stations or more (`fewer_deliveries`)
pub twelve :
    brought (0 ∷ 1 ∷ []) both
    -- RELEASE and REQUEST of both at arbiter 0,
    (Call.Up 0 0
    ∷ Call.Up 0 0
    ∷ Call.Up 1 0
    ∷ Call.Up 1 0
    -- its GRANTs: both ask arbiter 1,
    ∷ Call.Down 0 0
    ∷ Call.Down 1 0
    -- where a RELEASE is before each REQUEST,
    ∷ Call.Up 1 1
    ∷ Call.Up 1 1
    ∷ Call.Up 0 1
    ∷ Call.Up 0 1
    -- and both hold
    ∷ Call.Down 0 1
    ∷ Call.Down 1 1
    ∷ [])
    ≡ record { only = true; many = 12; more = false; phases = Holding 0 (units_of 1) ∷ Holding 0 (units_of 1) ∷ [] }
unfolding broken_limit member lowest_among lowest_from at total fresh answered arrived without fits serve units_in onward taken left received_as received returning down goes_up goes_down keeps phase_in entry_in arbiter_in in_range releasing release_refusal given_back released release request_refusal requested request withdrawing withdraw_refusal given_up withdrawn withdraw call after replying granting delivery_refusal delivered_of delivered up units_of stock_of request_in grant_in asked_with only_deliveries under_way
twelve = refl

-- ---- who still collects waits for another that holds

-- three stations, one unit, and the three pairs as quorums
abbrev start : State
start = fresh 3 (stock_of 1) (3 ∷ (5 ∷ (6 ∷ [])))

abbrev third_holds : State
third_holds =
    after start
    -- station 2 holds by 1 and 2;
    (Call.Request 2 2 (units_of 1)
    ∷ Call.Up 2 1
    ∷ Call.Down 2 1
    ∷ Call.Up 2 2
    ∷ Call.Down 2 2
    -- station 0 asks 0 and 1, and waits at 1, which has granted to station 2;
    ∷ Call.Request 0 0 (units_of 1)
    ∷ Call.Up 0 0
    ∷ Call.Down 0 0
    ∷ Call.Up 0 1
    -- station 1 asks 0 and 2, and waits at 0, which has granted to station 0
    ∷ Call.Request 1 1 (units_of 1)
    ∷ Call.Up 1 0
    ∷ [])

pub two-collect :
    brought (0 ∷ 1 ∷ 2 ∷ []) third_holds []
    ≡ record { only = true; many = 0; more = false; phases = Collecting 0 (units_of 1) 1 ∷ Collecting 1 (units_of 1) 0 ∷ Holding 2 (units_of 1) ∷ [] }
unfolding broken_limit member lowest_among lowest_from at total fresh answered arrived without fits serve units_in onward taken left received_as received returning down goes_up goes_down keeps phase_in entry_in arbiter_in in_range releasing release_refusal given_back released release request_refusal requested request withdrawing withdraw_refusal given_up withdrawn withdraw call after replying granting delivery_refusal delivered_of delivered up units_of stock_of request_in grant_in asked_with only_deliveries under_way
two-collect = refl

some_unit : units_of 1 ≡ units_of 0 → ⊥
unfolding amount numbered units_of
some_unit e = omega (arith, ap (amount numbered) e)

pub for_the_third : WaitsFor third_holds 0 2 × WaitsFor third_holds 1 2
unfolding broken_limit member lowest_among lowest_from at total fresh answered arrived without fits serve units_in onward taken left received_as received returning down goes_up goes_down keeps phase_in entry_in arbiter_in in_range releasing release_refusal given_back released release request_refusal requested request withdrawing withdraw_refusal given_up withdrawn withdraw call after replying granting delivery_refusal delivered_of delivered up units_of stock_of request_in grant_in asked_with
for_the_third =
    let first : WaitsFor third_holds 0 2 = WaitsFor.granted 1 (omega arith) cons≢nil some_unit in
    (first, WaitsFor.behind (WaitsFor.granted 0 (omega arith) cons≢nil some_unit) first)

-- ---- and when it gives back, or one that waits gives up, something moves

pub gives_back :
    brought (0 ∷ 1 ∷ 2 ∷ []) (after third_holds (Call.Release 2 ∷ []))
    -- RELEASE at 1: station 0 is served,
    (Call.Up 2 1
    ∷ Call.Up 2 2
    -- and holds
    ∷ Call.Down 0 1
    ∷ [])
    ≡ record { only = true; many = 3; more = false; phases = Holding 0 (units_of 1) ∷ Collecting 1 (units_of 1) 0 ∷ Idle ∷ [] }
unfolding broken_limit member lowest_among lowest_from at total fresh answered arrived without fits serve units_in onward taken left received_as received returning down goes_up goes_down keeps phase_in entry_in arbiter_in in_range releasing release_refusal given_back released release request_refusal requested request withdrawing withdraw_refusal given_up withdrawn withdraw call after replying granting delivery_refusal delivered_of delivered up units_of stock_of request_in grant_in asked_with only_deliveries under_way
gives_back = refl

pub gives_up :
    brought (0 ∷ 1 ∷ 2 ∷ []) (after third_holds (Call.Withdraw 0 ∷ []))
    -- RELEASE of station 0 at 0: station 1 is served;
    (Call.Up 0 0
    -- WITHDRAW at 1, and GONE;
    ∷ Call.Up 0 1
    ∷ Call.Down 0 1
    -- station 1 asks 2, and waits there for station 2
    ∷ Call.Down 1 0
    ∷ Call.Up 1 2
    ∷ [])
    ≡ record { only = true; many = 5; more = false; phases = Idle ∷ Collecting 1 (units_of 1) 2 ∷ Holding 2 (units_of 1) ∷ [] }
unfolding broken_limit member lowest_among lowest_from at total fresh answered arrived without fits serve units_in onward taken left received_as received returning down goes_up goes_down keeps phase_in entry_in arbiter_in in_range releasing release_refusal given_back released release request_refusal requested request withdrawing withdraw_refusal given_up withdrawn withdraw call after replying granting delivery_refusal delivered_of delivered up units_of stock_of request_in grant_in asked_with only_deliveries under_way
gives_up = refl

-- station 0 holds both units, the others wait for one each, and one RELEASE serves them both
pub both-served :
    brought (0 ∷ 1 ∷ 2 ∷ [])
    (after (fresh 3 (stock_of 2) (1 ∷ []))
    (Call.Request 0 0 (units_of 2)
    ∷ Call.Up 0 0
    ∷ Call.Down 0 0
    ∷ Call.Request 1 0 (units_of 1)
    ∷ Call.Up 1 0
    ∷ Call.Request 2 0 (units_of 1)
    ∷ Call.Up 2 0
    ∷ Call.Release 0
    ∷ []))
    (Call.Up 0 0 ∷ Call.Down 2 0 ∷ Call.Down 1 0 ∷ [])
    ≡ record { only = true; many = 3; more = false; phases = Idle ∷ Holding 0 (units_of 1) ∷ Holding 0 (units_of 1) ∷ [] }
unfolding broken_limit member lowest_among lowest_from at total fresh answered arrived without fits serve units_in onward taken left received_as received returning down goes_up goes_down keeps phase_in entry_in arbiter_in in_range releasing release_refusal given_back released release request_refusal requested request withdrawing withdraw_refusal given_up withdrawn withdraw call after replying granting delivery_refusal delivered_of delivered up units_of stock_of request_in grant_in asked_with only_deliveries under_way
both-served = refl
