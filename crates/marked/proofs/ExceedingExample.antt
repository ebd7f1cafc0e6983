-- The list that one table gives: n = 2, k = 5, quorums 1 2 (P4). Two stations, each its own arbiter, come to hold 6 units.
-- Assumes nothing.
use mathlib.Core.List.{[], ◌∷◌, map}
use mathlib.Core.Path.{◌≡◌, refl}
use Rattle.lists.specs.At.{at}
use Rattle.lists.specs.Counting.{total}
use Rattle.stations.specs.Member.{member}
use Rattle.stations.specs.Sets.{lowest_among, lowest_from}
use Rattle.quorum.specs.Family.{common_within, families}
use Rattle.quorum.specs.FirstFamily.{first_family}
use Rattle.quorum.specs.Limits.{broken_limit}
use Rattle.quorum.specs.Width.{emptied, least_size, width}
use Rattle.units.specs.Units.{request_in, grant_in, fits, only, asked_with, asked_by, units_of, stock_of}
use Rattle.plain.specs.Answer.{answered}
use Rattle.plain.specs.Arbiter.{arrived, serve, units_in}
use Rattle.plain.specs.Delivery.{delivery_refusal}
use Rattle.plain.specs.Down.{onward, taken, received_as, received, returning, down}
use Rattle.plain.specs.Exceeding.{visits, collects, exceeds, exceeding}
use Rattle.plain.specs.InRange.{goes_up, goes_down, phase_in, entry_in, arbiter_in, in_range}
use Rattle.plain.specs.Lanes.{keeps}
use Rattle.plain.specs.Request.{request_refusal, requested, request}
use Rattle.plain.specs.Run.{Call, call, run}
use Rattle.plain.specs.State.{fresh}
use Rattle.plain.specs.Up.{replying, granting, delivered_of, delivered, up}
use Rattle.plain.proofs.HandMade.{said, done, enters}

pub six_units : exceeding 2 (stock_of 5) (1 ∷ (2 ∷ [])) ≡ Call.Request 0 0 (units_of 1) ∷ (Call.Up 0 0 ∷ (Call.Down 0 0 ∷ (Call.Request 1 1 (units_of 5) ∷ (Call.Up 1 1 ∷ (Call.Down 1 1 ∷ [])))))
unfolding common_within families first_family emptied least_size width member visits collects exceeds exceeding only asked_with asked_by units_of stock_of
six_units = refl

pub six_entered : map said (run (fresh 2 (stock_of 5) (1 ∷ (2 ∷ []))) (exceeding 2 (stock_of 5) (1 ∷ (2 ∷ [])))) ≡ done ∷ (done ∷ (enters 1 ∷ (done ∷ (done ∷ (enters 5 ∷ [])))))
unfolding common_within families first_family emptied least_size width member visits collects exceeds exceeding broken_limit lowest_among lowest_from at total fresh answered arrived fits serve units_in onward taken received_as received returning down goes_up goes_down keeps phase_in entry_in arbiter_in in_range request_refusal requested request call run replying granting delivery_refusal delivered_of delivered up only asked_with asked_by units_of stock_of request_in grant_in
six_entered = refl
