-- Nobody waits on silence, of the program's own records.
-- Assumes nothing.
use mathlib.Core.List.{List}
use mathlib.Core.Path.{◌≡◌, refl, sym, ap, ◌∙◌, subst}
use Prim.Native.Nat.{ℕ}
use Rattle.lists.specs.Search.{all}
use Rattle.quorum.specs.Limits.{broken_limit}
use Rattle.units.specs.Units.{asked_with}
use Rattle.units.specs.declared.Units.{Units}
use Rattle.plain.specs.Answer.{Answer as PlainAnswer}
use Rattle.plain.specs.Run.{Call, call, run, after}
use Rattle.plain.specs.Silence.{is_done, NobodyWaitsOnSilence}
use Rattle.plain.specs.State.{State, fresh}
use Rattle.plain.proofs.DoneDeliveries.{few-done}
use Rattle.plain.proofs.NobodyWaits.{nobody_waits}
use Rattle.records.specs.View.{view}
use Rattle.records.specs.declared.Record.{Record}
use Rattle.calls.specs.Answers.{answer_of}
use Rattle.calls.specs.declared.Answer.{Answer}
use Rattle.claim.specs.Resting.{record_after, NobodyWaits}
use Rattle.claim.specs.Trace.{LearntOf, Trace}
use Rattle.claim.proofs.Tracing.{learnt_call, trace_runs}

-- the record that a call returns stands for the state that the plain machine's call leads to
learnt_state : (r : Record) (c : Call) (a : Answer) → LearntOf r c a → view a.«record» ≡ (call (view r) c).state
unfolding answer_of
learnt_state r c a learnt = ap (λ (p : PlainAnswer). p.state) (learnt_call r c a learnt)

-- and so does the last record of a trace
trace_after : {r : Record} {calls : List Call} {answers : List Answer} → Trace r calls answers → view (record_after r answers) ≡ after (view r) calls
unfolding record_after after
trace_after Trace.none = refl
trace_after (Trace.answered {r} {c} {a} {calls} {answers} learnt rest) = trace_after rest ∙ ap (λ (st : State). after st calls) (learnt_state r c a learnt)

module _ (n : ℕ) (stock : Units) (table : List ℕ) where
  -- of every table that passes 1 to 4, and so of every table that is accepted
  pub records-rest : broken_limit n (asked_with stock) table ≡ 0 → NobodyWaits n stock table
  records-rest kept r calls answers start trace =
      let last = record_after r answers in
      let reached : view last ≡ after (fresh n stock table) calls = trace_after trace ∙ ap (λ (st : State). after st calls) start in
      let silence : NobodyWaitsOnSilence (view last) = subst NobodyWaitsOnSilence (sym reached) (nobody_waits n stock table kept calls) in
      record {
        few = λ more given t e.
            let same = trace_runs t ∙ ap (λ (st : State). run st more) reached in
            rw same (few-done n stock table kept calls more (rw same at e));
        done = λ more given t only. ap (all is_done) (trace_runs t) ∙ silence.done more only;
        silence = silence;
      }
