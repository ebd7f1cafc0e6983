-- The call Release: a station gives its units back.
use Rattle.std.specs.Prelude.{Bool, true, false, cond, not, ◌&&◌, List, [], ◌∷◌, ℕ, leb}
use Rattle.lists.specs.At.{at}
use Rattle.lists.specs.Broken.{Test, ◌when◌, first_broken}
use Rattle.lists.specs.Search.{some_below}
use Rattle.stations.specs.Member.{member}
use Rattle.quorum.specs.Family.{quorum}
use Rattle.units.specs.Units.{no_units}
use Rattle.units.specs.declared.Units.{Units}
use Rattle.plain.specs.Answer.{Answer, left_only, answered}
use Rattle.plain.specs.InRange.{in_range}
use Rattle.plain.specs.Lanes.{up_places, no_place, passes, sent}
use Rattle.plain.specs.State.{State}
use Rattle.plain.specs.Updates.{with_phase, with_ups}
use Rattle.plain.specs.declared.Message.{Message}
use Rattle.plain.specs.declared.Message.TheVariants.{Release}
use Rattle.plain.specs.declared.Phase.{Phase}
use Rattle.plain.specs.declared.Phase.TheVariants.{Idle, Collecting, Holding, Withdrawing}

-- "RELEASE goes up to all members": the lanes up of a station, with RELEASE to the members of the set q
unfoldable pub releasing : ℕ → (ℕ → List Message) → ℕ → List Message
releasing q lanes j = cond (member q j) (sent (lanes j) Release) (lanes j)

-- whether RELEASE goes up to j, and the lane would pass its limit with it
abbrev pub release_passes : ℕ → (ℕ → List Message) → ℕ → Bool
release_passes q lanes j = member q j && passes up_places (releasing q lanes j)

-- "a lane .. would pass its limit": of those to the members of a set
abbrev pub any_passes : State → ℕ → ℕ → Bool
any_passes st s set = some_below (λ j. release_passes set (st.up s) j) st.n

-- of the quorum that is held
abbrev pub some_passes : State → ℕ → ℕ → Bool
some_passes st s q = any_passes st s (quorum st.table q)

-- none where the station holds nothing
abbrev pub back_passes : State → ℕ → Phase → Bool
back_passes st s Idle = false
back_passes st s (Collecting q h m) = false
back_passes st s (Holding q h) = some_passes st s q
back_passes st s Withdrawing = false

abbrev pub is_holding : Phase → Bool
is_holding Idle = false
is_holding (Collecting q h m) = false
is_holding (Holding q h) = true
is_holding Withdrawing = false

-- 19; 8 "station or arbiter ≥ n"; 12 "station not holding"; 14
abbrev pub release_tests : State → ℕ → List Test
release_tests st s =
    19 when not (in_range st)
    ∷ 8 when leb st.n s
    ∷ 12 when not (is_holding (st.phase s))
    ∷ no_place when back_passes st s (st.phase s)
    ∷ []

-- the first of them that is broken
unfoldable pub release_refusal : State → ℕ → ℕ
release_refusal st s = first_broken (release_tests st s)

-- "s is idle", and RELEASE has gone up to all members of its quorum
unfoldable pub given_back : State → ℕ → ℕ → State
given_back st s q = with_phase s Idle (with_ups (at st.up s (releasing (quorum st.table q) (st.up s))) st)

-- by what the station does
unfoldable pub released : State → ℕ → Phase → State
released st s Idle = st
released st s (Collecting q h m) = st
released st s (Holding q h) = given_back st s q
released st s Withdrawing = st

-- "its h units are left": the units that a station in this phase holds
abbrev pub held : Phase → Units
held Idle = no_units
held (Collecting q h m) = no_units
held (Holding q h) = h
held Withdrawing = no_units

-- Release(s)
unfoldable pub release : State → ℕ → Answer
release st s = answered st (release_refusal st s) (left_only (held (st.phase s))) (released st s (st.phase s))
