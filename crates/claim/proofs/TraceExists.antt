-- There are traces: every call ends, so from every record that the machine can hold, and for every list of calls with numbers that its
-- arguments can hold, there is one. And demand 3 for the executions themselves, not only for what the checker has learnt of them.
-- Assumes nothing.
use mathlib.Core.List.{List, [], map}
use mathlib.Core.Logic.{∥∥₁_prop, ∥∥₁_elim, ∥∥₁_map}
use mathlib.Core.Path.{◌≡◌}
use Prim.Native.Nat.{ℕ}
use mir.Val.{Val}
use prog.Memory.{Memory}
use prog.Routine.{Env}
use Rattle.quorum.specs.Accepted.{Accepted}
use Rattle.quorum.specs.Limits.{broken_limit}
use Rattle.units.specs.Units.{asked_with}
use Rattle.units.specs.declared.Units.{Units}
use Rattle.plain.specs.Run.{Call, run, WithinStock}
use Rattle.plain.specs.State.{fresh}
use Rattle.records.specs.View.{view}
use Rattle.records.specs.declared.Record.{Record}
use Rattle.calls.specs.Answers.{answer_of}
use Rattle.calls.specs.declared.Answer.{Answer}
use Rattle.machine.proofs.Program.{program}
use Rattle.machine.proofs.StartingRecord.{fresh-held}
use Rattle.claim.specs.Execution.{IsRecord, AreAnswers, HasCalls, AllFit, Execution}
use Rattle.claim.specs.Trace.{Trace}
use Rattle.claim.proofs.Demand3.{demand_3}
use Rattle.claim.proofs.EndingCall.{program-has}
use Rattle.claim.proofs.Executing.{execution_exists, execution_traced}

-- from every record
pub trace_exists : (r : Record) (w : Val) → IsRecord r w → (calls : List Call) → AllFit calls → ∥ ((answers : List Answer) × Trace r calls answers) ∥₁
trace_exists r w is calls fits = ∥∥₁_map (execution_exists program program-has r w is calls fits []) (λ t. (t.0, t.4))

module _ (n : ℕ) (stock : Units) (table : List ℕ) where
  -- from a fresh record of every table that passes 1 to 4
  pub fresh_trace_exists : broken_limit n (asked_with stock) table ≡ 0 → (calls : List Call) → AllFit calls
      → ∥ ((r : Record) × (view r ≡ fresh n stock table) × (answers : List Answer) × Trace r calls answers) ∥₁
  fresh_trace_exists kept calls fits =
      ∥∥₁_elim (fresh-held n stock table kept) ∥∥₁_prop (λ h. ∥∥₁_map (trace_exists h.0 h.1 h.2 calls fits) (λ t. (h.0, h.3, t.0, t.1)))

  -- Demand 3 (a) of executions: in every program that has the calls, from every fresh record of an accepted table and from every memory, what any
  -- execution of the calls returns are the plain machine's answers, and units entered less units left are within the stock. There is an execution
  -- (`execution_exists`), and one only (`execution_one`). There is such a program (`program-has`).
  pub execution_claim : (γ : Env) → HasCalls γ → Accepted n (asked_with stock) table → (r : Record) (w : Val) → IsRecord r w
      → view r ≡ fresh n stock table → (calls : List Call) → AllFit calls → (σ : Memory) (vs : List Val) → Execution γ σ w calls vs
      → ∥ ((answers : List Answer) × AreAnswers answers vs × (map answer_of answers ≡ run (fresh n stock table) calls) × WithinStock stock (map answer_of answers)) ∥₁
  execution_claim γ has accepted r w is start calls fits σ vs e =
      ∥∥₁_map (execution_traced γ has r w is calls fits σ vs e) (λ t.
      let (same, within) = ((demand_3 n stock table).0 accepted).0 r calls t.0 start t.2 in
      (t.0, t.1, same, within))
