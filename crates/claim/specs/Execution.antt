-- A list of calls, run by the machine of the logic, which is the definition of what a Rattle program does, in any program that has the five calls.
use Rattle.std.specs.Prelude.{List, [], ◌∷◌, map, ℕ, zero, suc, ◌<◌, ◌^◌}
use Rattle.std.specs.Int.{w64}
use mir.Val.{Val, Vals, vunit, vbool, vint, vfloat, vptr, vcode, vstruct, vnil, vcons}
use prog.Memory.{Memory}
use prog.Routine.{Callee, Env, Routine, ends}
use prog.Wired.{Wired}
use denote.Laws.{Is}
use Rattle.units.specs.Units.{number_of}
use Rattle.plain.specs.Run.{Call}
use Rattle.records.specs.declared.Record.{Record}
use Rattle.records.specs.contracts.Record.{the_row as the_record}
use Rattle.calls.specs.declared.Answer.{Answer}
use Rattle.calls.specs.contracts.Answer.{the_row as the_answer}
use Rattle.calls.proofs.down.Symbol as down
use Rattle.calls.proofs.release.Symbol as release
use Rattle.calls.proofs.request.Symbol as request
use Rattle.calls.proofs.up.Symbol as up
use Rattle.calls.proofs.withdraw.Symbol as withdraw

-- w is the machine's value of the record: its numbers fit their widths, and its arrays have their lengths
abbrev pub IsRecord : Record → Val → Type 0
IsRecord r w = Is the_record r (w ∷ [])

-- v is the machine's value of the answer
abbrev pub IsAnswer : Answer → Val → Type 0
IsAnswer a v = Is the_answer a (v ∷ [])

-- each value is that of its answer
abbrev pub AreAnswers : List Answer → List Val → Type 0
AreAnswers [] [] = Unit {0}
AreAnswers [] (v ∷ vs) = ⊥
AreAnswers (a ∷ answers) [] = ⊥
AreAnswers (a ∷ answers) (v ∷ vs) = IsAnswer a v × AreAnswers answers vs

-- the exported function that a call is of
abbrev pub name_of : Call → Callee
name_of (Call.Request s q h) = request.name
name_of (Call.Up s j) = up.name
name_of (Call.Down s j) = down.name
name_of (Call.Release s) = release.name
name_of (Call.Withdraw s) = withdraw.name

-- and what it is as the machine runs it in the program γ
abbrev pub routine_of : Env → Call → Routine
routine_of γ c = γ (name_of c)

-- γ is what each name means in a program, and the program has the five calls: each of the five functions, and each that they name, does in it what
-- its code does, and no more.
abbrev pub HasCalls : Env → Type 0
HasCalls γ = Wired γ request.code × Wired γ up.code × Wired γ down.code × Wired γ release.code × Wired γ withdraw.code

-- the numbers that it is passed behind the record
abbrev pub arguments_of : Call → List ℕ
arguments_of (Call.Request s q h) = s ∷ q ∷ number_of h ∷ []
arguments_of (Call.Up s j) = s ∷ j ∷ []
arguments_of (Call.Down s j) = s ∷ j ∷ []
arguments_of (Call.Release s) = s ∷ []
arguments_of (Call.Withdraw s) = s ∷ []

-- numbers that a `usize` can hold; all numbers of a list of calls
abbrev pub Fit : List ℕ → Type 0
Fit [] = Unit {0}
Fit (x ∷ xs) = (x < 2 ^ 64) × Fit xs

abbrev pub AllFit : List Call → Type 0
AllFit [] = Unit {0}
AllFit (c ∷ calls) = Fit (arguments_of c) × AllFit calls

-- the call, passed the record's value w and its numbers in the memory σ, ends in the program γ: it returns v and leaves the memory σ'
abbrev pub Gives : Env → Val → Call → Memory → Val → Memory → Type 0
Gives γ w c σ v σ' = ends (routine_of γ c) (w ∷ map (vint w64) (arguments_of c)) σ v σ'

-- a field of a value of the machine
abbrev field_at : ℕ → Vals → Val
field_at i vnil = vunit
field_at zero (vcons v vs) = v
field_at (suc i) (vcons v vs) = field_at i vs

-- the record's value in an answer's: the field after the outcome
abbrev pub record_of : Val → Val
record_of vunit = vunit
record_of (vbool b) = vunit
record_of (vint w n) = vunit
record_of (vfloat f x) = vunit
record_of (vptr b o) = vunit
record_of (vcode f) = vunit
record_of (vstruct vs) = field_at 1 vs

-- From the memory σ and the record's value w the calls are run one after another in the program γ, each on the record that the one before returned
-- and in the memory that it left, and they return vs.
pub data Execution (γ : Env) : Memory → Val → List Call → List Val → Type 0 where
  none : {σ : Memory} {w : Val} → Execution γ σ w [] []
  returned : {σ σ' : Memory} {w v : Val} {c : Call} {calls : List Call} {vs : List Val}
      → Gives γ w c σ v σ' → Execution γ σ' (record_of v) calls vs → Execution γ σ w (c ∷ calls) (v ∷ vs)
