-- The answers of a trace are the plain machine's, one for one.
-- Assumes nothing.
use mathlib.Core.List.{List, ◌∷◌, map}
use mathlib.Core.Path.{◌≡◌, refl, ap, ◌∙◌}
use Rattle.units.proofs.Numbers.{units_number}
use Rattle.plain.specs.Answer.{Answer as PlainAnswer}
use Rattle.plain.specs.Request.{request}
use Rattle.plain.specs.Run.{Call, call, run}
use Rattle.records.specs.View.{view}
use Rattle.records.specs.declared.Record.{Record}
use Rattle.calls.specs.Answers.{answer_of}
use Rattle.calls.specs.declared.Answer.{Answer}
use Rattle.claim.specs.Trace.{LearntOf, Trace}

-- a call's own contract says that its answer is the plain machine's
pub learnt_call : (r : Record) (c : Call) (a : Answer) → LearntOf r c a → answer_of a ≡ call (view r) c
unfolding call
learnt_call r (Call.Request s q h) a e = e.0 ∙ ap (request (view r) s q) (units_number h)
learnt_call r (Call.Up s j) a e = e.0
learnt_call r (Call.Down s j) a e = e.0
learnt_call r (Call.Release s) a e = e.0
learnt_call r (Call.Withdraw s) a e = e.0

-- one for one: refusal, units entered, units left, members still to come and record
pub trace_runs : {r : Record} {calls : List Call} {answers : List Answer} → Trace r calls answers → map answer_of answers ≡ run (view r) calls
unfolding run answer_of
trace_runs Trace.none = refl
trace_runs (Trace.answered {r} {c} {a} {calls} {answers} learnt rest) =
    ap (λ (l : List PlainAnswer). answer_of a ∷ l) (trace_runs rest) ∙ ap (λ (p : PlainAnswer). p ∷ run p.state calls) (learnt_call r c a learnt)
