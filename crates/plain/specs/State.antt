-- The state of the plain machine: functions of the stations' numbers, for any number of stations.
use Rattle.std.specs.Prelude.{List, [], ℕ}
use Rattle.units.specs.Units.{no_units}
use Rattle.units.specs.declared.Units.{Units}
use Rattle.plain.specs.declared.Entry.{Entry}
use Rattle.plain.specs.declared.Message.{Message}
use Rattle.plain.specs.declared.Phase.{Phase}
use Rattle.plain.specs.declared.Phase.TheVariants.{Idle}

-- "Each arbiter .. has for every station the units granted (0 if none) and a line of waiting (station, units), oldest first."
pub record Arbiter : Type 0 where
  pub granted : ℕ → Units
  pub line : List Entry

-- n, the stock and the table; what each station does; an arbiter for each station; and "for each pair (station s, arbiter j)" an up
-- lane and a down lane, "oldest first"
pub record State : Type 0 where
  pub n : ℕ
  pub stock : Units
  pub table : List ℕ
  pub phase : ℕ → Phase
  pub arbiter : ℕ → Arbiter
  pub up : ℕ → ℕ → List Message
  pub down : ℕ → ℕ → List Message

-- an arbiter that has granted nothing and at which nobody waits
abbrev pub empty_arbiter : Arbiter
empty_arbiter = record { granted = λ s. no_units; line = [] }

-- "At the start all is idle and empty."
unfoldable pub fresh : ℕ → Units → List ℕ → State
fresh n stock table =
    record {
      n = n;
      stock = stock;
      table = table;
      phase = λ s. Idle;
      arbiter = λ j. empty_arbiter;
      up = λ s j. [];
      down = λ s j. [];
    }
