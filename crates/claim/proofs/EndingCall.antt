-- Each of the five calls ends on the machine of the logic, in every program that has them and from every memory, and what it returns is an answer of
-- which its contract holds. There is such a program.
-- Assumes nothing.
use mathlib.Core.List.{[], ◌∷◌}
use mathlib.Core.Path.{refl}
use mir.Syntax.{w64}
use mir.Val.{Val, vint}
use prog.Linked.{World, Holds}
use prog.Memory.{Memory}
use prog.Routine.{Env}
use ghost.Model as Closed
use contract.BorrowModel.{logic₀}
use contract.Closed.{model⁺}
use denote.Struct.Laws.{makes}
use Rattle.units.specs.Units.{number_of}
use Rattle.plain.specs.Run.{Call}
use Rattle.records.specs.declared.Record.{Record}
use Rattle.records.specs.contracts.Record.{the_row as the_record}
use Rattle.records.specs.contracts.Record as record-type
use Rattle.records.proofs.Record.TheLaws as record-laws
use Rattle.calls.specs.declared.Answer.{Answer}
use Rattle.calls.proofs.down.Kinds as down-kinds
use Rattle.calls.proofs.down.Met as down-met
use Rattle.calls.proofs.down.Reads as down
use Rattle.calls.proofs.down.Symbol as down-code
use Rattle.calls.proofs.release.Kinds as release-kinds
use Rattle.calls.proofs.release.Met as release-met
use Rattle.calls.proofs.release.Reads as release
use Rattle.calls.proofs.release.Symbol as release-code
use Rattle.calls.proofs.request.Kinds as request-kinds
use Rattle.calls.proofs.request.Met as request-met
use Rattle.calls.proofs.request.Reads as request
use Rattle.calls.proofs.request.Symbol as request-code
use Rattle.calls.proofs.up.Kinds as up-kinds
use Rattle.calls.proofs.up.Met as up-met
use Rattle.calls.proofs.up.Reads as up
use Rattle.calls.proofs.up.Symbol as up-code
use Rattle.calls.proofs.withdraw.Kinds as withdraw-kinds
use Rattle.calls.proofs.withdraw.Met as withdraw-met
use Rattle.calls.proofs.withdraw.Reads as withdraw
use Rattle.calls.proofs.withdraw.Symbol as withdraw-code
use Rattle.machine.proofs.Program.{program, request-wired, up-wired, down-wired, release-wired, withdraw-wired, table, Below, linked, linked-calls}
use Rattle.machine.proofs.ReturningCall.{Had, 𝓡₀, number_had, returns}
use Rattle.claim.specs.Execution.{IsRecord, IsAnswer, HasCalls, arguments_of, Fit, Gives}
use Rattle.claim.specs.Trace.{LearntOf}

record_had : Had the_record
record_had = makes record-type.the_type record-laws.the_plain logic₀

-- there is a program that has the calls
pub program-has : HasCalls program
program-has = (request-wired, up-wired, down-wired, release-wired, withdraw-wired)

-- and so has every program in which all functions of the machine's crate are, as the checker lists them, with what they name
pub linked-has : (W : World) (here : Holds W "machine" table) (below : Below W) → HasCalls (linked W here below)
linked-has W here below = linked-calls W here below

pub call_ends : (γ : Env) → HasCalls γ → (r : Record) (w : Val) → IsRecord r w → (c : Call) → Fit (arguments_of c) → (σ : Memory)
    → ∥ ((a : Answer) × (v : Val) × (σ' : Memory) × Gives γ w c σ v σ' × IsAnswer a v × LearntOf r c a) ∥₁
call_ends γ has r w is (Call.Request s q h) fits σ =
    returns request-kinds.ps request-kinds.r request.Asked request.Learnt γ request-code.name
    request.known (request-met.met Closed.𝓤 logic₀ model⁺ (𝓡₀ γ) has.0) tt (record_had, (number_had w64, (number_had w64, (number_had w64, tt))))
    (r, (s, (q, (number_of h, tt)))) (w ∷ [], (vint w64 s ∷ [], (vint w64 q ∷ [], (vint w64 (number_of h) ∷ [], tt)))) (is, ((refl, fits.0), ((refl, fits.1.0), ((refl, fits.1.1.0), tt)))) tt
    (LearntOf r (Call.Request s q h)) (λ z ws l. l) σ
call_ends γ has r w is (Call.Up s j) fits σ =
    returns up-kinds.ps up-kinds.r up.Asked up.Learnt γ up-code.name
    up.known (up-met.met Closed.𝓤 logic₀ model⁺ (𝓡₀ γ) has.1) tt (record_had, (number_had w64, (number_had w64, tt)))
    (r, (s, (j, tt))) (w ∷ [], (vint w64 s ∷ [], (vint w64 j ∷ [], tt))) (is, ((refl, fits.0), ((refl, fits.1.0), tt))) tt
    (LearntOf r (Call.Up s j)) (λ z ws l. l) σ
call_ends γ has r w is (Call.Down s j) fits σ =
    returns down-kinds.ps down-kinds.r down.Asked down.Learnt γ down-code.name
    down.known (down-met.met Closed.𝓤 logic₀ model⁺ (𝓡₀ γ) has.2) tt (record_had, (number_had w64, (number_had w64, tt)))
    (r, (s, (j, tt))) (w ∷ [], (vint w64 s ∷ [], (vint w64 j ∷ [], tt))) (is, ((refl, fits.0), ((refl, fits.1.0), tt))) tt
    (LearntOf r (Call.Down s j)) (λ z ws l. l) σ
call_ends γ has r w is (Call.Release s) fits σ =
    returns release-kinds.ps release-kinds.r release.Asked release.Learnt γ release-code.name
    release.known (release-met.met Closed.𝓤 logic₀ model⁺ (𝓡₀ γ) has.3) tt (record_had, (number_had w64, tt))
    (r, (s, tt)) (w ∷ [], (vint w64 s ∷ [], tt)) (is, ((refl, fits.0), tt)) tt
    (LearntOf r (Call.Release s)) (λ z ws l. l) σ
call_ends γ has r w is (Call.Withdraw s) fits σ =
    returns withdraw-kinds.ps withdraw-kinds.r withdraw.Asked withdraw.Learnt γ withdraw-code.name
    withdraw.known (withdraw-met.met Closed.𝓤 logic₀ model⁺ (𝓡₀ γ) has.4) tt (record_had, (number_had w64, tt))
    (r, (s, tt)) (w ∷ [], (vint w64 s ∷ [], tt)) (is, ((refl, fits.0), tt)) tt
    (LearntOf r (Call.Withdraw s)) (λ z ws l. l) σ
