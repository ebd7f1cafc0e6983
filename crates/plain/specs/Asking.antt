-- A station asks a member of its quorum, alike in Request and in Down.
use Rattle.std.specs.Prelude.{Bool, List, ℕ}
use Rattle.stations.specs.Sets.{members_above}
use Rattle.quorum.specs.Family.{quorum}
use Rattle.units.specs.declared.Units.{Units}
use Rattle.plain.specs.Lanes.{up_places, passes, sent}
use Rattle.plain.specs.State.{State}
use Rattle.plain.specs.Updates.{with_phase, with_up}
use Rattle.plain.specs.declared.Message.{Message}
use Rattle.plain.specs.declared.Message.TheVariants.{Request}
use Rattle.plain.specs.declared.Phase.TheVariants.{Collecting}

-- "after sending REQUEST, the number of members above the addressee": of the quorum q, above m
abbrev pub to_come : State → ℕ → ℕ → ℕ
to_come st q m = members_above (quorum st.table q) m

-- the lane up to the member m, with REQUEST(h)
abbrev pub asked : State → ℕ → Units → ℕ → List Message
asked st s h m = sent (st.up s m) (Request h)

-- "a lane .. would pass its limit"
abbrev pub ask_passes : State → ℕ → Units → ℕ → Bool
ask_passes st s h m = passes up_places (asked st s h m)

-- "REQUEST(h) goes up to" the member m of the quorum q, and s collects from it
abbrev pub asking : State → ℕ → ℕ → Units → ℕ → State
asking st s q h m = with_phase s (Collecting q h m) (with_up s m (asked st s h m) st)
