-- In every program that has the five calls, every list of calls is run to its end on the machine of the logic, in one way, and what it returns are
-- the answers of a trace.
-- Assumes nothing.
use mathlib.Core.List.{List, [], ◌∷◌, map}
use mathlib.Core.Logic.{∥∥₁_prop, ∥∥₁_elim, ∥∥₁_map}
use mathlib.Core.Path.{◌≡◌, refl, sym, ap, subst}
use mir.Syntax.{w64}
use mir.Val.{Val, vint}
use prog.Memory.{Memory}
use prog.Routine.{Env, ends-one}
use denote.Steps.{only}
use denote.Struct.Laws.{tells, owed}
use Rattle.plain.specs.Run.{Call}
use Rattle.records.specs.declared.Record.{Record}
use Rattle.calls.specs.declared.Answer.{Answer}
use Rattle.calls.specs.contracts.Answer as answer-type
use Rattle.calls.proofs.Answer.TheLaws as answer-laws
use Rattle.claim.specs.Execution.{IsRecord, IsAnswer, AreAnswers, HasCalls, name_of, arguments_of, AllFit, record_of, Execution}
use Rattle.claim.specs.Trace.{Trace}
use Rattle.claim.proofs.EndingCall.{call_ends}

is_record : (a : Answer) (v : Val) → IsAnswer a v → IsRecord a.«record» (record_of v)
is_record a v p =
    subst (λ (u : Val). IsRecord a.«record» (record_of u)) (ap only (sym (tells answer-type.the_type answer-laws.the_laws a (v ∷ []) p)))
    (owed answer-type.the_type answer-laws.the_laws a (v ∷ []) p).1.0

-- from every memory there is an execution, and it gives a trace
pub execution_exists : (γ : Env) → HasCalls γ → (r : Record) (w : Val) → IsRecord r w → (calls : List Call) → AllFit calls → (σ : Memory)
    → ∥ ((answers : List Answer) × (vs : List Val) × Execution γ σ w calls vs × AreAnswers answers vs × Trace r calls answers) ∥₁
execution_exists γ has r w is [] fits σ = ∣ ([], [], Execution.none, tt, Trace.none) ∣₁
execution_exists γ has r w is (c ∷ calls) fits σ =
    ∥∥₁_elim (call_ends γ has r w is c fits.0 σ) ∥∥₁_prop (λ (a, v, σ', gives, is-a, learnt).
    ∥∥₁_map (execution_exists γ has a.«record» (record_of v) (is_record a v is-a) calls fits.1 σ') (λ (answers, vs, execution, are, trace).
    (a ∷ answers, v ∷ vs, Execution.returned gives execution, (is-a, are), Trace.answered learnt trace)))

-- the machine has one way to go on
pub execution_one : {γ : Env} {σ : Memory} {w : Val} {calls : List Call} {vs us : List Val} → Execution γ σ w calls vs → Execution γ σ w calls us → vs ≡ us
execution_one Execution.none Execution.none = refl
execution_one {γ = γ} {σ = σ} {w = w} (Execution.returned {σ' = σ'} {v = v} {c = c} {calls = calls} {vs = vs} g e) (Execution.returned {σ' = ρ'} {v = u} {vs = us} h d) =
    let same : ◌≡◌ {A = Val × Memory} (v, σ') (u, ρ') = ends-one (γ (name_of c)) (w ∷ map (vint w64) (arguments_of c)) σ (v, σ') (u, ρ') g h in
    let e' : Execution γ ρ' (record_of u) calls vs = subst (λ (x : Val × Memory). Execution γ x.1 (record_of x.0) calls vs) same e in
    λ i. (same i).0 ∷ execution_one e' d i

-- so what any execution returns are the answers of a trace
pub execution_traced : (γ : Env) → HasCalls γ → (r : Record) (w : Val) → IsRecord r w → (calls : List Call) → AllFit calls
    → (σ : Memory) (vs : List Val) → Execution γ σ w calls vs → ∥ ((answers : List Answer) × AreAnswers answers vs × Trace r calls answers) ∥₁
execution_traced γ has r w is calls fits σ vs e =
    ∥∥₁_map (execution_exists γ has r w is calls fits σ) (λ t. (t.0, subst (AreAnswers t.0) (execution_one t.2 e) t.3, t.4))
