-- What a call of the machine answers, as the plain machine's answer.
use Rattle.std.specs.Prelude.{Result, Ok, Err}
use Rattle.refusals.specs.Numbers.{refusal_of}
use Rattle.refusals.specs.declared.Refusal.{Refusal}
use Rattle.plain.specs.Answer.{Answer as PlainAnswer, Returned as PlainReturned, nothing, answer}
use Rattle.plain.specs.State.{State}
use Rattle.records.specs.View.{view}
use Rattle.calls.specs.declared.Answer.{Answer}
use Rattle.calls.specs.declared.Returned.{Returned}

-- what a call that is done returns
abbrev pub returned_of : Returned → PlainReturned
returned_of x = record { entered = x.entered; left = x.left; above = x.above }

-- "(else 0)": what a call returns, nothing where it is refused
abbrev pub returned_in : Result Returned Refusal → PlainReturned
returned_in (Ok x) = returned_of x
returned_in (Err refusal) = nothing

-- a call of this outcome that leads to this state
abbrev pub answered_by : Result Returned Refusal → State → PlainAnswer
answered_by outcome next = answer (refusal_of outcome) (returned_in outcome) next

-- "Each call returns refusal, units entered (else 0), units left (else 0) and the record." "The plain machine returns it too"
unfoldable pub answer_of : Answer → PlainAnswer
answer_of a = answered_by a.outcome (view a.«record»)
