-- The laws on calls that end and on executions, at a program that has the calls: no premise on the program is left.
-- Assumes nothing.
use mathlib.Core.List.{List, map}
use mathlib.Core.Path.{◌≡◌}
use Prim.Native.Nat.{ℕ}
use mir.Val.{Val}
use prog.Memory.{Memory}
use Rattle.quorum.specs.Accepted.{Accepted}
use Rattle.units.specs.Units.{asked_with}
use Rattle.units.specs.declared.Units.{Units}
use Rattle.plain.specs.Run.{Call, run, WithinStock}
use Rattle.plain.specs.State.{fresh}
use Rattle.records.specs.View.{view}
use Rattle.records.specs.declared.Record.{Record}
use Rattle.calls.specs.Answers.{answer_of}
use Rattle.calls.specs.declared.Answer.{Answer}
use Rattle.machine.proofs.Program.{program}
use Rattle.claim.specs.Execution.{IsRecord, IsAnswer, AreAnswers, arguments_of, Fit, AllFit, Gives, Execution}
use Rattle.claim.specs.Trace.{LearntOf, Trace}
use Rattle.claim.proofs.EndingCall.{program-has, call_ends}
use Rattle.claim.proofs.Executing.{execution_exists, execution_traced}
use Rattle.claim.proofs.TraceExists.{execution_claim}

pub program_call_ends : (r : Record) (w : Val) → IsRecord r w → (c : Call) → Fit (arguments_of c) → (σ : Memory)
    → ∥ ((a : Answer) × (v : Val) × (σ' : Memory) × Gives program w c σ v σ' × IsAnswer a v × LearntOf r c a) ∥₁
program_call_ends = call_ends program program-has

pub program_execution_exists : (r : Record) (w : Val) → IsRecord r w → (calls : List Call) → AllFit calls → (σ : Memory)
    → ∥ ((answers : List Answer) × (vs : List Val) × Execution program σ w calls vs × AreAnswers answers vs × Trace r calls answers) ∥₁
program_execution_exists = execution_exists program program-has

pub program_execution_traced : (r : Record) (w : Val) → IsRecord r w → (calls : List Call) → AllFit calls
    → (σ : Memory) (vs : List Val) → Execution program σ w calls vs → ∥ ((answers : List Answer) × AreAnswers answers vs × Trace r calls answers) ∥₁
program_execution_traced = execution_traced program program-has

module _ (n : ℕ) (stock : Units) (table : List ℕ) where
  pub program_execution_claim : Accepted n (asked_with stock) table → (r : Record) (w : Val) → IsRecord r w
      → view r ≡ fresh n stock table → (calls : List Call) → AllFit calls → (σ : Memory) (vs : List Val) → Execution program σ w calls vs
      → ∥ ((answers : List Answer) × AreAnswers answers vs × (map answer_of answers ≡ run (fresh n stock table) calls) × WithinStock stock (map answer_of answers)) ∥₁
  program_execution_claim = execution_claim n stock table program program-has
