-- Examples of what a station does with a GRANT, and of giving back.
-- Assumes nothing.
use mathlib.Core.List.{List, [], ◌∷◌}
use mathlib.Core.Path.{◌≡◌, refl}
use Prim.Native.Nat.{ℕ}
use Rattle.lists.specs.At.{at}
use Rattle.lists.specs.Counting.{total}
use Rattle.stations.specs.Member.{member}
use Rattle.stations.specs.Sets.{lowest_among, lowest_from}
use Rattle.quorum.specs.Limits.{broken_limit}
use Rattle.units.specs.Units.{no_units, request_in, grant_in, fits, asked_with, units_of, stock_of}
use Rattle.plain.specs.Answer.{answered}
use Rattle.plain.specs.Arbiter.{arrived, serve, units_in}
use Rattle.plain.specs.Delivery.{delivery_refusal}
use Rattle.plain.specs.Down.{onward, taken, received_as, received, returning, down}
use Rattle.plain.specs.InRange.{goes_up, goes_down, phase_in, entry_in, arbiter_in, in_range}
use Rattle.plain.specs.Lanes.{keeps}
use Rattle.plain.specs.Release.{releasing, release_refusal, given_back, released, release}
use Rattle.plain.specs.Request.{request_refusal, requested, request}
use Rattle.plain.specs.State.{State, fresh}
use Rattle.plain.specs.Up.{replying, granting, delivered_of, delivered, up}
use Rattle.plain.specs.Updates.{with_phase, with_up, with_down}
use Rattle.plain.specs.declared.Message.TheVariants.{Request, Release, Grant}
use Rattle.plain.specs.declared.Phase.{Phase}
use Rattle.plain.specs.declared.Phase.TheVariants.{Idle, Collecting, Holding}
use Rattle.plain.proofs.HandMade.{done, enters, leaves, refuses, Seen, seen}

-- three stations, one unit; the quorums are {0, 2} and {1}
abbrev two_quorums : State
two_quorums = fresh 3 (stock_of 1) (5 ∷ (2 ∷ []))

-- station 1 in this phase, with a GRANT from arbiter j, takes it
abbrev takes : Phase → ℕ → State
takes p j = with_down 1 j (Grant ∷ []) (with_phase 1 p two_quorums)

-- seen at the arbiter x: a GRANT from j is taken
abbrev taken_from : Phase → ℕ → ℕ → Seen
taken_from p j x = seen 1 x (down (takes p j) 1 j)

pub grants-taken :
    ◌≡◌ {A = List Seen}
    -- collecting from 0: REQUEST goes up to 2, the lowest member above
    (taken_from (Collecting 0 (units_of 1) 0) 0 2
    -- collecting from 2, the last member: the station holds, and its unit is entered
    ∷ taken_from (Collecting 0 (units_of 1) 2) 2 2
    -- collecting from a station that is no member: REQUEST goes up to the lowest member above it
    ∷ taken_from (Collecting 0 (units_of 1) 1) 1 2
    -- collecting from another, idle, holding: dropped
    ∷ taken_from (Collecting 0 (units_of 1) 2) 0 0
    ∷ taken_from Idle 0 0
    ∷ taken_from (Holding 0 (units_of 1)) 0 0
    -- and no REQUEST goes up to 2, where it would go if the station collected from 0
    ∷ taken_from (Collecting 0 (units_of 1) 2) 0 2
    ∷ taken_from (Holding 0 (units_of 1)) 0 2
    -- only the oldest of two is taken
    ∷ seen 1 0 (down (with_down 1 0 (Grant ∷ (Grant ∷ [])) two_quorums) 1 0)
    -- no place for REQUEST: nothing changes
    ∷ seen 1 2 (down (with_up 1 2 (Release ∷ (Release ∷ (Release ∷ (Release ∷ [])))) (takes (Collecting 0 (units_of 1) 0) 0)) 1 0)
    ∷ [])
    (record { answer = done; phase = Collecting 0 (units_of 1) 2; granted = no_units; line = []; up = Request (units_of 1) ∷ []; down = [] }
    ∷ record { answer = enters 1; phase = Holding 0 (units_of 1); granted = no_units; line = []; up = []; down = [] }
    ∷ record { answer = done; phase = Collecting 0 (units_of 1) 2; granted = no_units; line = []; up = Request (units_of 1) ∷ []; down = [] }
    ∷ record { answer = done; phase = Collecting 0 (units_of 1) 2; granted = no_units; line = []; up = []; down = [] }
    ∷ record { answer = done; phase = Idle; granted = no_units; line = []; up = []; down = [] }
    ∷ record { answer = done; phase = Holding 0 (units_of 1); granted = no_units; line = []; up = []; down = [] }
    ∷ record { answer = done; phase = Collecting 0 (units_of 1) 2; granted = no_units; line = []; up = []; down = [] }
    ∷ record { answer = done; phase = Holding 0 (units_of 1); granted = no_units; line = []; up = []; down = [] }
    ∷ record { answer = done; phase = Idle; granted = no_units; line = []; up = []; down = Grant ∷ [] }
    ∷ record { answer = refuses 14; phase = Collecting 0 (units_of 1) 0; granted = no_units; line = []; up = Release ∷ (Release ∷ (Release ∷ (Release ∷ []))); down = [] }
    ∷ [])
unfolding broken_limit member lowest_among lowest_from at total fresh answered arrived fits serve units_in onward taken received_as received returning down goes_up goes_down keeps phase_in entry_in arbiter_in in_range releasing release_refusal given_back released release request_refusal requested request replying granting delivery_refusal delivered_of delivered up units_of stock_of request_in grant_in asked_with
grants-taken = refl

-- station 1 holds by the quorum {0, 2} and gives back
abbrev holds : State
holds = with_phase 1 (Holding 0 (units_of 1)) two_quorums

pub gives_back :
    ◌≡◌ {A = List Seen}
    -- RELEASE goes up to both members, not to 1
    (seen 1 0 (release holds 1)
    ∷ seen 1 1 (release holds 1)
    ∷ seen 1 2 (release holds 1)
    -- behind what is in the lane already
    ∷ seen 1 2 (release (with_up 1 2 (Request (units_of 1) ∷ []) holds) 1)
    -- one member's lane is full: no member is sent a RELEASE
    ∷ seen 1 0 (release (with_up 1 2 (Release ∷ (Release ∷ (Release ∷ (Release ∷ [])))) holds) 1)
    -- the full lane to an arbiter that is no member does not matter
    ∷ seen 1 0 (release (with_up 1 1 (Release ∷ (Release ∷ (Release ∷ (Release ∷ [])))) holds) 1)
    ∷ [])
    (record { answer = leaves 1; phase = Idle; granted = no_units; line = []; up = Release ∷ []; down = [] }
    ∷ record { answer = leaves 1; phase = Idle; granted = no_units; line = []; up = []; down = [] }
    ∷ record { answer = leaves 1; phase = Idle; granted = no_units; line = []; up = Release ∷ []; down = [] }
    ∷ record { answer = leaves 1; phase = Idle; granted = no_units; line = []; up = Request (units_of 1) ∷ (Release ∷ []); down = [] }
    ∷ record { answer = refuses 14; phase = Holding 0 (units_of 1); granted = no_units; line = []; up = []; down = [] }
    ∷ record { answer = leaves 1; phase = Idle; granted = no_units; line = []; up = Release ∷ []; down = [] }
    ∷ [])
unfolding broken_limit member lowest_among lowest_from at total fresh answered arrived fits serve units_in onward taken received_as received returning down goes_up goes_down keeps phase_in entry_in arbiter_in in_range releasing release_refusal given_back released release request_refusal requested request replying granting delivery_refusal delivered_of delivered up units_of stock_of request_in grant_in asked_with
gives_back = refl
