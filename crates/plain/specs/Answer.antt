-- What a call of the plain machine answers.
use Rattle.std.specs.Prelude.{ℕ}
use Rattle.lists.specs.Broken.{done_or}
use Rattle.units.specs.Units.{no_units}
use Rattle.units.specs.declared.Units.{Units}
use Rattle.plain.specs.State.{State}

-- "Each call returns refusal, units entered (else 0), units left (else 0) and the record." "Request and Down return it: after sending REQUEST,
-- the number of members above the addressee; otherwise 0."
pub record Answer : Type 0 where
  pub refusal : ℕ
  pub entered : Units
  pub left : Units
  pub above : ℕ
  pub state : State

-- what a call returns besides its refusal and the record
pub record Returned : Type 0 where
  pub entered : Units
  pub left : Units
  pub above : ℕ

-- "else 0", "otherwise 0"
abbrev pub nothing : Returned
nothing = record { entered = no_units; left = no_units; above = 0 }

abbrev pub entered_only : Units → Returned
entered_only h = record { entered = h; left = no_units; above = 0 }

abbrev pub left_only : Units → Returned
left_only h = record { entered = no_units; left = h; above = 0 }

abbrev pub above_only : ℕ → Returned
above_only a = record { entered = no_units; left = no_units; above = a }

-- so much is returned, and the state after the call is `next`
abbrev pub answer : ℕ → Returned → State → Answer
answer refusal x next = record { refusal = refusal; entered = x.entered; left = x.left; above = x.above; state = next }

-- an answer, but with another state
abbrev pub with_state : State → Answer → Answer
with_state st a = record { refusal = a.refusal; entered = a.entered; left = a.left; above = a.above; state = st }

-- "A refused call enters and leaves 0 and returns the record unchanged."
abbrev pub refused : State → ℕ → Answer
refused st r = answer r nothing st

-- a call that is done returns x and leads to the state `next`
abbrev pub done : Returned → State → Answer
done x next = answer 0 x next

-- the answer to a call on st that is refused by r, or else (r = 0) is done
unfoldable pub answered : State → ℕ → Returned → State → Answer
answered st r x next = done_or (done x next) (refused st) r
