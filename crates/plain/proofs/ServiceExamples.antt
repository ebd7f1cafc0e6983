-- Examples of service and of deliveries: each tells the plain machine from one that keeps the bound as well.
-- Assumes nothing.
use mathlib.Core.List.{List, [], ◌∷◌, map}
use mathlib.Core.Path.{◌≡◌, refl}
use Prim.Native.Nat.{ℕ}
use lib.ListN.{replicate}
use Rattle.lists.specs.At.{at}
use Rattle.lists.specs.Counting.{total}
use Rattle.stations.specs.Member.{member}
use Rattle.stations.specs.Sets.{lowest_among, lowest_from}
use Rattle.quorum.specs.Limits.{broken_limit}
use Rattle.units.specs.Units.{no_units, request_in, grant_in, fits, asked_with, units_of, stock_of}
use Rattle.plain.specs.Answer.{answered}
use Rattle.plain.specs.Arbiter.{arrived, serve, units_in}
use Rattle.plain.specs.Delivery.{delivery_refusal}
use Rattle.plain.specs.Down.{onward, taken, received_as, received, returning, down}
use Rattle.plain.specs.InRange.{goes_up, goes_down, phase_in, entry_in, arbiter_in, in_range}
use Rattle.plain.specs.Lanes.{keeps}
use Rattle.plain.specs.Release.{releasing, release_refusal, given_back, released, release}
use Rattle.plain.specs.Request.{request_refusal, requested, request}
use Rattle.plain.specs.Run.{Call, call, run}
use Rattle.plain.specs.State.{State, fresh}
use Rattle.plain.specs.Up.{replying, granting, delivered_of, delivered, up}
use Rattle.plain.specs.Updates.{with_up}
use Rattle.plain.specs.declared.Entry.{Entry}
use Rattle.plain.specs.declared.Message.{Message}
use Rattle.plain.specs.declared.Message.TheVariants.{Request, Release, Grant}
use Rattle.plain.specs.declared.Phase.TheVariants.{Idle}
use Rattle.plain.proofs.HandMade.{with_line_lem, with_grant, said, done, enters, leaves, refuses, Seen, seen}

-- station 0 alone is the only quorum
abbrev one-arbiter : List ℕ
one-arbiter = 1 ∷ []

abbrev entry : ℕ → ℕ → Entry
entry s h = record { station = s; units = units_of h }

-- Three stations share a stock of 3. Station 0 is granted 2 and station 1 waits for 2. Station 2 asks for 1, which would fit, but it does
-- not pass the first entry. When station 0 has given back, both are served by one Up, the older first.
pub strictly-from-the-first :
    map said (run (fresh 3 (stock_of 3) one-arbiter) (
    Call.Request 0 0 (units_of 2)
    ∷ Call.Up 0 0
    ∷ Call.Request 1 0 (units_of 2)
    ∷ Call.Up 1 0
    ∷ Call.Request 2 0 (units_of 1)
    ∷ Call.Up 2 0
    ∷ Call.Down 1 0
    ∷ Call.Down 2 0
    ∷ Call.Down 0 0
    ∷ Call.Release 0
    ∷ Call.Up 0 0
    ∷ Call.Down 1 0
    ∷ Call.Down 2 0
    ∷ []))
    ≡ done ∷ done ∷ done ∷ done ∷ done ∷ done ∷ refuses 13 ∷ refuses 13 ∷ enters 2 ∷ leaves 2 ∷ done ∷ enters 2 ∷ enters 1 ∷ []
unfolding broken_limit member lowest_among lowest_from at total fresh answered arrived fits serve units_in onward taken received_as received returning down goes_up goes_down keeps phase_in entry_in arbiter_in in_range releasing release_refusal given_back released release request_refusal requested request call run replying granting delivery_refusal delivered_of delivered up units_of stock_of request_in grant_in asked_with
strictly-from-the-first = refl

-- Of two that wait for the only unit the older is granted first.
pub oldest-first :
    map said (run (fresh 3 (stock_of 1) one-arbiter) (
    Call.Request 0 0 (units_of 1)
    ∷ Call.Up 0 0
    ∷ Call.Request 2 0 (units_of 1)
    ∷ Call.Up 2 0
    ∷ Call.Request 1 0 (units_of 1)
    ∷ Call.Up 1 0
    ∷ Call.Down 0 0
    ∷ Call.Release 0
    ∷ Call.Up 0 0
    ∷ Call.Down 1 0
    ∷ Call.Down 2 0
    ∷ []))
    ≡ done ∷ done ∷ done ∷ done ∷ done ∷ done ∷ enters 1 ∷ leaves 1 ∷ done ∷ refuses 13 ∷ enters 1 ∷ []
unfolding broken_limit member lowest_among lowest_from at total fresh answered arrived fits serve units_in onward taken received_as received returning down goes_up goes_down keeps phase_in entry_in arbiter_in in_range releasing release_refusal given_back released release request_refusal requested request call run replying granting delivery_refusal delivered_of delivered up units_of stock_of request_in grant_in asked_with
oldest-first = refl

-- Up on states made by hand, one station, one arbiter
abbrev arbiter_with : ℕ → ℕ → List Entry → List Message → State
arbiter_with k g line lane = with_up 0 0 lane (with_line_lem 0 line (with_grant 0 0 g (fresh 1 (stock_of k) one-arbiter)))

pub by_hand :
    ◌≡◌ {A = List Seen}
    -- the station's own grant counts: 2 + 1 is more than 2
    (seen 0 0 (up (arbiter_with 2 1 [] (Request (units_of 2) ∷ [])) 0 0)
    -- the units granted are replaced, not added to
    ∷ seen 0 0 (up (arbiter_with 5 1 [] (Request (units_of 3) ∷ [])) 0 0)
    -- RELEASE takes all units back, then the line is served, while its first entry fits
    ∷ seen 0 0 (up (arbiter_with 2 2 (entry 0 2 ∷ (entry 0 1 ∷ [])) (Release ∷ [])) 0 0)
    -- two GRANTs to one station have places
    ∷ seen 0 0 (up (arbiter_with 3 0 (entry 0 1 ∷ (entry 0 2 ∷ [])) (Release ∷ [])) 0 0)
    -- three have not: nothing changes
    ∷ seen 0 0 (up (arbiter_with 3 0 (entry 0 1 ∷ (entry 0 1 ∷ (entry 0 1 ∷ []))) (Release ∷ [])) 0 0)
    -- a REQUEST finds no place in a line of 12, even if the line would be served then
    ∷ seen 0 0 (up (arbiter_with 200 0 (replicate 12 (entry 0 200)) (Request (units_of 1) ∷ [])) 0 0)
    -- a RELEASE needs none
    ∷ seen 0 0 (up (arbiter_with 200 0 (replicate 12 (entry 0 200)) (Release ∷ [])) 0 0)
    ∷ [])
    (record { answer = done; phase = Idle; granted = units_of 1; line = entry 0 2 ∷ []; up = []; down = [] }
    ∷ record { answer = done; phase = Idle; granted = units_of 3; line = []; up = []; down = Grant ∷ [] }
    ∷ record { answer = done; phase = Idle; granted = units_of 2; line = entry 0 1 ∷ []; up = []; down = Grant ∷ [] }
    ∷ record { answer = done; phase = Idle; granted = units_of 2; line = []; up = []; down = Grant ∷ (Grant ∷ []) }
    ∷ record { answer = refuses 14; phase = Idle; granted = no_units; line = entry 0 1 ∷ (entry 0 1 ∷ (entry 0 1 ∷ [])); up = Release ∷ []; down = [] }
    ∷ record { answer = refuses 14; phase = Idle; granted = no_units; line = replicate 12 (entry 0 200); up = Request (units_of 1) ∷ []; down = [] }
    ∷ record { answer = done; phase = Idle; granted = units_of 200; line = replicate 11 (entry 0 200); up = []; down = Grant ∷ [] }
    ∷ [])
unfolding broken_limit member lowest_among lowest_from at total fresh answered arrived fits serve units_in goes_up goes_down keeps phase_in entry_in arbiter_in in_range replying granting delivery_refusal delivered_of delivered up units_of stock_of request_in grant_in asked_with
by_hand = refl
