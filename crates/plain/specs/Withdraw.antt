-- The call Withdraw: a station that collects gives up its request.
use Rattle.std.specs.Prelude.{Bool, true, false, not, ◌||◌, List, [], ◌∷◌, ℕ, leb}
use Rattle.std.specs.Int.Bits.{bit_and}
use Rattle.lists.specs.At.{at}
use Rattle.lists.specs.Broken.{Test, ◌when◌, first_broken}
use Rattle.stations.specs.Sets.{everyone}
use Rattle.quorum.specs.Family.{quorum}
use Rattle.plain.specs.Answer.{Answer, nothing, answered}
use Rattle.plain.specs.InRange.{in_range}
use Rattle.plain.specs.Lanes.{up_places, no_place, passes, sent}
use Rattle.plain.specs.Release.{releasing, any_passes}
use Rattle.plain.specs.State.{State}
use Rattle.plain.specs.Updates.{with_phase, with_ups}
use Rattle.plain.specs.declared.Message.{Message}
use Rattle.plain.specs.declared.Message.TheVariants.{Withdraw}
use Rattle.plain.specs.declared.Phase.{Phase}
use Rattle.plain.specs.declared.Phase.TheVariants.{Idle, Collecting, Holding, Withdrawing}

-- "all members that have already granted (those below the member now approached)": the members of the set q below m
abbrev pub below : ℕ → ℕ → ℕ
below q m = bit_and q (everyone m)

-- "RELEASE goes to all members that have already granted .., WITHDRAW to the member now approached": the lanes up of a station that
-- approached m by the set q
unfoldable pub withdrawing : ℕ → ℕ → (ℕ → List Message) → ℕ → List Message
withdrawing q m lanes = at (releasing (below q m) lanes) m (sent (lanes m) Withdraw)

-- "a lane .. would pass its limit": one of those that RELEASE goes to, or that of WITHDRAW
abbrev pub leaving_passes : State → ℕ → ℕ → ℕ → Bool
leaving_passes st s q m = any_passes st s (below (quorum st.table q) m) || passes up_places (sent (st.up s m) Withdraw)

-- none where the station does not collect
abbrev pub withdraw_passes : State → ℕ → Phase → Bool
withdraw_passes st s Idle = false
withdraw_passes st s (Collecting q h m) = leaving_passes st s q m
withdraw_passes st s (Holding q h) = false
withdraw_passes st s Withdrawing = false

abbrev pub is_collecting : Phase → Bool
is_collecting Idle = false
is_collecting (Collecting q h m) = true
is_collecting (Holding q h) = false
is_collecting Withdrawing = false

-- 19; 8 "station or arbiter ≥ n"; "20, withdraw at a station that is not collecting, after 8 and before 14"; 14
abbrev pub withdraw_tests : State → ℕ → List Test
withdraw_tests st s =
    19 when not (in_range st)
    ∷ 8 when leb st.n s
    ∷ 20 when not (is_collecting (st.phase s))
    ∷ no_place when withdraw_passes st s (st.phase s)
    ∷ []

-- the first of them that is broken
unfoldable pub withdraw_refusal : State → ℕ → ℕ
withdraw_refusal st s = first_broken (withdraw_tests st s)

-- "the station is withdrawing", and RELEASE and WITHDRAW have gone up
unfoldable pub given_up : State → ℕ → ℕ → ℕ → State
given_up st s q m = with_phase s Withdrawing (with_ups (at st.up s (withdrawing (quorum st.table q) m (st.up s))) st)

-- by what the station does
unfoldable pub withdrawn : State → ℕ → Phase → State
withdrawn st s Idle = st
withdrawn st s (Collecting q h m) = given_up st s q m
withdrawn st s (Holding q h) = st
withdrawn st s Withdrawing = st

-- Withdraw(s): "a withdrawn request enters none"
unfoldable pub withdraw : State → ℕ → Answer
withdraw st s = answered st (withdraw_refusal st s) nothing (withdrawn st s (st.phase s))
