-- The call Request: a station asks for units by a quorum.
use Rattle.std.specs.Prelude.{Bool, true, false, not, List, [], ◌∷◌, ℕ, leb, length}
use Rattle.lists.specs.Broken.{Test, ◌when◌, first_broken}
use Rattle.stations.specs.Sets.{lowest_from}
use Rattle.quorum.specs.Family.{quorum}
use Rattle.units.specs.Units.{request_in}
use Rattle.units.specs.declared.Units.{Units}
use Rattle.plain.specs.Answer.{Answer, Returned, above_only, answered}
use Rattle.plain.specs.Asking.{to_come, ask_passes, asking}
use Rattle.plain.specs.InRange.{in_range}
use Rattle.plain.specs.Lanes.{no_place}
use Rattle.plain.specs.State.{State}
use Rattle.plain.specs.declared.Phase.{Phase}
use Rattle.plain.specs.declared.Phase.TheVariants.{Idle, Collecting, Holding, Withdrawing}

-- "Request refuses a withdrawing station by 11"
abbrev pub is_idle : Phase → Bool
is_idle Idle = true
is_idle (Collecting q h m) = false
is_idle (Holding q h) = false
is_idle Withdrawing = false

-- "the lowest member" of the quorum q
abbrev pub lowest : State → ℕ → ℕ
lowest st q = lowest_from (quorum st.table q) 0

-- "a lane .. would pass its limit": the one to the lowest member
abbrev pub request_passes : State → ℕ → ℕ → Units → Bool
request_passes st s q h = ask_passes st s h (lowest st q)

-- 19; 8 "station or arbiter ≥ n"; 9 "no such quorum"; 10 "units outside 1..k"; 11 "station not idle"; 14
abbrev pub request_tests : State → ℕ → ℕ → Units → List Test
request_tests st s q h =
    19 when not (in_range st)
    ∷ 8 when leb st.n s
    ∷ 9 when leb (length st.table) q
    ∷ 10 when not (request_in st.stock h)
    ∷ 11 when not (is_idle (st.phase s))
    ∷ no_place when request_passes st s q h
    ∷ []

-- the first of them that is broken
unfoldable pub request_refusal : State → ℕ → ℕ → Units → ℕ
request_refusal st s q h = first_broken (request_tests st s q h)

-- "s collects; REQUEST(h) goes up to the lowest member"
unfoldable pub requested : State → ℕ → ℕ → Units → State
requested st s q h = asking st s q h (lowest st q)

-- "after sending REQUEST, the number of members above the addressee"
abbrev pub request_returns : State → ℕ → Returned
request_returns st q = above_only (to_come st q (lowest st q))

-- Request(s, q, h)
unfoldable pub request : State → ℕ → ℕ → Units → Answer
request st s q h = answered st (request_refusal st s q h) (request_returns st q) (requested st s q h)
