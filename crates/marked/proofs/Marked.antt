-- The marked tables and runs P1 to P12 of document 01, of the definitions, as one list.
-- Assumes nothing.
use mathlib.Core.List.{List, [], ◌∷◌, ◌++◌, map}
use mathlib.Core.Path.{◌≡◌, refl}
use Prim.Native.Nat.{ℕ}
use Rattle.lists.specs.At.{at}
use Rattle.lists.specs.Counting.{each, how_many, total}
use Rattle.stations.specs.Member.{member}
use Rattle.stations.specs.Sets.{contains, set_of, lowest_among, lowest_from}
use Rattle.quorum.specs.Answer.{answer, answer_to}
use Rattle.quorum.specs.Even.{even}
use Rattle.quorum.specs.Family.{quorum as quorum_at, common_within, families}
use Rattle.quorum.specs.FirstFamily.{first_family}
use Rattle.quorum.specs.Limits.{broken_limit}
use Rattle.quorum.specs.Nested.{nested}
use Rattle.quorum.specs.Refusal.{refusal}
use Rattle.quorum.specs.Scratch.{scratch_bytes}
use Rattle.quorum.specs.Width.{emptied, least_size, width, lacks_common}
use Rattle.tables.specs.Cube.{coordinate, agree, cube_quorum, cube_table}
use Rattle.units.specs.Units.{request_in, grant_in, fits, asked_with, units_of, stock_of}
use Rattle.plain.specs.Answer.{Answer, answered}
use Rattle.plain.specs.Arbiter.{arrived, serve, units_in}
use Rattle.plain.specs.Delivery.{delivery_refusal}
use Rattle.plain.specs.Down.{onward, taken, received_as, received, returning, down}
use Rattle.plain.specs.InRange.{goes_up, goes_down, phase_in, entry_in, arbiter_in, in_range}
use Rattle.plain.specs.Lanes.{keeps}
use Rattle.plain.specs.Release.{releasing, release_refusal, given_back, released, release}
use Rattle.plain.specs.Request.{request_refusal, requested, request}
use Rattle.plain.specs.Run.{Call, call, run}
use Rattle.plain.specs.State.{fresh}
use Rattle.plain.specs.Up.{replying, granting, delivered_of, delivered, up}
use Rattle.plain.proofs.HandMade.{Call_says, said, done, enters, refuses}

-- what a marked case says: the check's answer on a table, a quorum of a ready-made table, or the answers of a run
pub data Says : Type 0 where
  table : (refusal width even : ℕ) (family : List ℕ) → Says
  quorum : ℕ → Says
  calls : List Call_says → Says

-- the check's answer, with scratch enough
abbrev check : ℕ → ℕ → List ℕ → Says
check n k t = says (answer n k t scratch_bytes)
  where
    says : Rattle.quorum.specs.Answer.Answer → Says
    says a = Says.table a.refusal a.width a.even a.family

-- the answers to a list of calls from the fresh state
abbrev from_fresh : ℕ → ℕ → List ℕ → List Call → Says
from_fresh n k t list = Says.calls (map said (run (fresh n (stock_of k) t) list))

abbrev three : List ℕ
three = 3 ∷ 5 ∷ 6 ∷ []

abbrev four : List ℕ
four = 7 ∷ 11 ∷ 13 ∷ 14 ∷ []

abbrev first_enters : List Call
first_enters = Call.Request 0 0 (units_of 1) ∷ Call.Up 0 0 ∷ Call.Down 0 0 ∷ Call.Up 0 1 ∷ Call.Down 0 1 ∷ []

abbrev second_waits : List Call
second_waits = Call.Request 1 2 (units_of 1) ∷ Call.Up 1 1 ∷ Call.Down 1 1 ∷ []

-- Left the definitions, right what document 01 says. (It says nothing of even, which is document 02's; an answer is shown whole.)
pub marked :
    ◌≡◌ {A = List Says}
    -- P1
    (check 1 1 (1 ∷ [])
    -- P2
    ∷ check 3 1 three
    -- P3
    ∷ check 3 2 three
    -- P4
    ∷ check 2 5 (1 ∷ 2 ∷ [])
    -- P5
    ∷ check 4 2 four
    -- P6
    ∷ check 4 3 four
    -- P7
    ∷ check 4 2 (3 ∷ 12 ∷ 5 ∷ 10 ∷ [])
    -- P8
    ∷ check 2 1 (1 ∷ 3 ∷ [])
    -- P9
    ∷ check 2 1 (1 ∷ 2 ∷ 3 ∷ [])
    -- P10
    ∷ Says.quorum (quorum_at (cube_table 3 1) 0)
    -- P11
    ∷ from_fresh 3 1 three first_enters
    -- P12
    ∷ from_fresh 3 1 three (first_enters ++ second_waits)
    ∷ [])
    -- P1
    (Says.table 0 0 1 []
    -- P2
    ∷ Says.table 0 3 1 []
    -- P3
    ∷ Says.table 6 3 1 (0 ∷ 1 ∷ 2 ∷ [])
    -- P4
    ∷ Says.table 6 2 1 (0 ∷ 1 ∷ [])
    -- P5
    ∷ Says.table 0 4 1 []
    -- P6
    ∷ Says.table 6 4 1 (0 ∷ 1 ∷ 2 ∷ 3 ∷ [])
    -- P7
    ∷ Says.table 6 2 1 (0 ∷ 1 ∷ [])
    -- P8
    ∷ Says.table 7 0 0 []
    -- P9
    ∷ Says.table 6 2 0 (0 ∷ 1 ∷ [])
    -- P10
    ∷ Says.quorum 79
    -- P11
    ∷ Says.calls (done ∷ done ∷ done ∷ done ∷ enters 1 ∷ [])
    -- P12
    ∷ Says.calls (done ∷ done ∷ done ∷ done ∷ enters 1 ∷ done ∷ done ∷ refuses 13 ∷ [])
    ∷ [])
unfolding answer answer_to refusal nested even how_many width emptied least_size first_family lacks_common common_within families broken_limit member contains cube_table each cube_quorum set_of agree coordinate lowest_among lowest_from at total fresh answered arrived fits serve units_in onward taken received_as received returning down goes_up goes_down keeps phase_in entry_in arbiter_in in_range releasing release_refusal given_back released release request_refusal requested request call run replying granting delivery_refusal delivered_of delivered up request_in grant_in asked_with units_of stock_of
marked = refl
