-- States made by hand, and what examples show of answers and states.
-- Assumes nothing.
use mathlib.Core.List.{List}
use Prim.Native.Nat.{ℕ}
use Rattle.units.specs.Units.{no_units, units_of}
use Rattle.units.specs.declared.Units.{Units}
use Rattle.plain.specs.Answer.{Answer}
use Rattle.plain.specs.State.{State}
use Rattle.plain.specs.Updates.{with_arbiter, with_granted, with_line}
use Rattle.plain.specs.declared.Entry.{Entry}
use Rattle.plain.specs.declared.Message.{Message}
use Rattle.plain.specs.declared.Phase.{Phase}

-- ---- a state, but with another line, or other units granted to station s, at arbiter j

abbrev pub with_line_lem : ℕ → List Entry → State → State
with_line_lem j line st = with_arbiter j (with_line line (st.arbiter j)) st

abbrev pub with_grant : ℕ → ℕ → ℕ → State → State
with_grant j s h st = with_arbiter j (with_granted s (units_of h) (st.arbiter j)) st

-- ---- what is shown

-- what a call answers, but for the state
pub data Call_says : Type 0 where
  says : (refusal : ℕ) (entered left : Units) → Call_says

abbrev pub said : Answer → Call_says
said a = Call_says.says a.refusal a.entered a.left

-- a call that is not refused, enters nothing and leaves nothing
abbrev pub done : Call_says
done = Call_says.says 0 no_units no_units

abbrev pub enters : ℕ → Call_says
enters h = Call_says.says 0 (units_of h) no_units

abbrev pub leaves : ℕ → Call_says
leaves h = Call_says.says 0 no_units (units_of h)

abbrev pub refuses : ℕ → Call_says
refuses r = Call_says.says r no_units no_units

-- of an answer, and of the state after it: what station s does; of s at arbiter j the units granted, the lane up and the lane down; the line of j
pub record Seen : Type 0 where
  pub answer : Call_says
  pub phase : Phase
  pub granted : Units
  pub line : List Entry
  pub up : List Message
  pub down : List Message

abbrev pub seen : ℕ → ℕ → Answer → Seen
seen s j a =
    record {
      answer = said a;
      phase = a.state.phase s;
      granted = (a.state.arbiter j).granted s;
      line = (a.state.arbiter j).line;
      up = a.state.up s j;
      down = a.state.down s j;
    }
