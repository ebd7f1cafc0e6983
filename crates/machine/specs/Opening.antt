-- Opening: a fresh record of an accepted table.
use Rattle.std.specs.Prelude.{cond, List, [], ℕ, eqb}
use Rattle.refusals.specs.Numbers.{refusal_of}
use Rattle.quorum.specs.Refusal.{refusal}
use Rattle.units.specs.Units.{no_units, asked_with}
use Rattle.units.specs.declared.Units.{Units}
use Rattle.plain.specs.State.{State, fresh}
use Rattle.records.specs.View.{view}
use Rattle.machine.specs.declared.Opened.{Opened}

-- the refusal and the record
pub record Opening : Type 0 where
  pub refusal : ℕ
  pub state : State

-- "the empty record (n = 0)"
abbrev pub empty_record : State
empty_record = fresh 0 no_units []

-- "opening runs the check"; "Opening gives a fresh record, or on refusal the empty record (n = 0)."
unfoldable pub opening : ℕ → Units → List ℕ → ℕ → Opening
opening n stock table room =
    record { refusal = refusal n (asked_with stock) table room; state = cond (eqb (refusal n (asked_with stock) table room) 0) (fresh n stock table) empty_record }

-- what the code's answer says
unfoldable pub opened_of : Opened → Opening
opened_of o = record { refusal = refusal_of o.outcome; state = view o.«record» }
