-- Examples of each call's refusals, and of their order where several are due: "A call tests 19, 8, then the rest of its own, upward."
-- Assumes nothing.
use mathlib.Core.List.{List, [], ◌∷◌}
use mathlib.Core.Path.{◌≡◌, refl}
use Prim.Native.Nat.{ℕ}
use Rattle.lists.specs.At.{at}
use Rattle.lists.specs.Counting.{total}
use Rattle.stations.specs.Member.{member}
use Rattle.stations.specs.Sets.{lowest_among, lowest_from}
use Rattle.quorum.specs.Limits.{broken_limit}
use Rattle.units.specs.Units.{request_in, grant_in, fits, asked_with, units_of, stock_of}
use Rattle.plain.specs.Answer.{Answer, answered}
use Rattle.plain.specs.Arbiter.{arrived, serve, units_in}
use Rattle.plain.specs.Delivery.{delivery_refusal}
use Rattle.plain.specs.Down.{down, onward, taken, received_as, received, returning}
use Rattle.plain.specs.InRange.{goes_up, goes_down, phase_in, entry_in, arbiter_in, in_range}
use Rattle.plain.specs.Lanes.{keeps}
use Rattle.plain.specs.Release.{releasing, release_refusal, given_back, released, release}
use Rattle.plain.specs.Request.{request_refusal, requested, request}
use Rattle.plain.specs.State.{State, fresh}
use Rattle.plain.specs.Up.{up, replying, granting, delivered_of, delivered}
use Rattle.plain.specs.Updates.{with_phase, with_up, with_down}
use Rattle.plain.specs.declared.Message.{Message}
use Rattle.plain.specs.declared.Message.TheVariants.{Release, Grant}
use Rattle.plain.specs.declared.Phase.TheVariants.{Collecting, Holding}

-- two stations, two units; the only quorum is both
abbrev both : State
both = fresh 2 (stock_of 2) (3 ∷ [])

-- out of range: no station
abbrev empty : State
empty = fresh 0 (stock_of 0) []

abbrev full : List Message
full = Release ∷ (Release ∷ (Release ∷ (Release ∷ [])))

abbrev refusal : Answer → ℕ
refusal a = a.refusal

pub in_order :
    ◌≡◌ {A = List (List ℕ)}
    -- Request: 19 before 8, 8 before 9, 9 before 10, 10 before 11, 11 before 14, and 14 alone
    ((refusal (request empty 0 0 (units_of 0))
    ∷ refusal (request both 2 1 (units_of 0))
    ∷ refusal (request (with_phase 0 (Holding 0 (units_of 1)) both) 0 1 (units_of 3))
    ∷ refusal (request (with_phase 0 (Holding 0 (units_of 1)) both) 0 0 (units_of 0))
    ∷ refusal (request (with_phase 0 (Holding 0 (units_of 1)) both) 0 0 (units_of 3))
    ∷ refusal (request (with_up 0 0 full (with_phase 0 (Holding 0 (units_of 1)) both)) 0 0 (units_of 2))
    ∷ refusal (request (with_up 0 0 full (with_phase 0 (Collecting 0 (units_of 1) 0) both)) 0 0 (units_of 1))
    ∷ refusal (request (with_up 0 0 full both) 0 0 (units_of 1))
    -- the lane to the other member does not matter, nor that of the other station
    ∷ refusal (request (with_up 0 1 full (with_up 1 0 full both)) 0 0 (units_of 2))
    ∷ [])
    -- Up: 19 before 8, 8 for the station and for the arbiter, 13
    ∷ (refusal (up empty 0 0) ∷ refusal (up both 2 0) ∷ refusal (up both 0 2) ∷ refusal (up both 0 0) ∷ refusal (up (with_up 0 1 full both) 0 0) ∷ [])
    -- Down: the same
    ∷ (refusal (down empty 0 0) ∷ refusal (down both 2 0) ∷ refusal (down both 0 2) ∷ refusal (down both 0 0) ∷ refusal (down (with_down 0 1 (Grant ∷ []) both) 0 0) ∷ [])
    -- Release: 19 before 8, 8, 12 before 14, and 14 alone
    ∷ (refusal (release empty 0)
    ∷ refusal (release both 2)
    ∷ refusal (release both 0)
    ∷ refusal (release (with_up 0 0 full (with_phase 0 (Collecting 0 (units_of 1) 0) both)) 0)
    ∷ refusal (release (with_up 0 1 full (with_phase 0 (Holding 0 (units_of 1)) both)) 0)
    ∷ [])
    ∷ [])
    ((19 ∷ 8 ∷ 9 ∷ 10 ∷ 10 ∷ 11 ∷ 11 ∷ 14 ∷ 0 ∷ [])
    ∷ (19 ∷ 8 ∷ 8 ∷ 13 ∷ 13 ∷ [])
    ∷ (19 ∷ 8 ∷ 8 ∷ 13 ∷ 13 ∷ [])
    ∷ (19 ∷ 8 ∷ 12 ∷ 12 ∷ 14 ∷ [])
    ∷ [])
unfolding broken_limit member lowest_among lowest_from at total fresh answered arrived fits serve units_in onward taken received_as received returning down goes_up goes_down keeps phase_in entry_in arbiter_in in_range releasing release_refusal given_back released release request_refusal requested request replying granting delivery_refusal delivered_of delivered up units_of stock_of request_in grant_in asked_with
in_order = refl
