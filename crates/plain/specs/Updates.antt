-- A state with one of its parts changed, and all else as it was.
use Rattle.std.specs.Prelude.{List, ℕ}
use Rattle.lists.specs.At.{at, at2}
use Rattle.units.specs.declared.Units.{Units}
use Rattle.plain.specs.State.{Arbiter, State}
use Rattle.plain.specs.declared.Entry.{Entry}
use Rattle.plain.specs.declared.Message.{Message}
use Rattle.plain.specs.declared.Phase.{Phase}

-- ---- what all stations do, all arbiters, all lanes up, all lanes down

abbrev pub with_phases : (ℕ → Phase) → State → State
with_phases phase st =
    record { n = st.n; stock = st.stock; table = st.table; phase = phase; arbiter = st.arbiter; up = st.up; down = st.down }

abbrev pub with_arbiters : (ℕ → Arbiter) → State → State
with_arbiters arbiter st =
    record { n = st.n; stock = st.stock; table = st.table; phase = st.phase; arbiter = arbiter; up = st.up; down = st.down }

abbrev pub with_ups : (ℕ → ℕ → List Message) → State → State
with_ups up st =
    record { n = st.n; stock = st.stock; table = st.table; phase = st.phase; arbiter = st.arbiter; up = up; down = st.down }

abbrev pub with_downs : (ℕ → ℕ → List Message) → State → State
with_downs down st =
    record { n = st.n; stock = st.stock; table = st.table; phase = st.phase; arbiter = st.arbiter; up = st.up; down = down }

-- ---- what station s does, arbiter j, the lane up or down of station s and arbiter j

abbrev pub with_phase : ℕ → Phase → State → State
with_phase s p st = with_phases (at st.phase s p) st

abbrev pub with_arbiter : ℕ → Arbiter → State → State
with_arbiter j a st = with_arbiters (at st.arbiter j a) st

abbrev pub with_up : ℕ → ℕ → List Message → State → State
with_up s j lane st = with_ups (at2 st.up s j lane) st

abbrev pub with_down : ℕ → ℕ → List Message → State → State
with_down s j lane st = with_downs (at2 st.down s j lane) st

-- ---- of an arbiter the units granted to station s, its line

abbrev pub with_granted : ℕ → Units → Arbiter → Arbiter
with_granted s h a = record { granted = at a.granted s h; line = a.line }

abbrev pub with_line : List Entry → Arbiter → Arbiter
with_line line a = record { granted = a.granted; line = line }
