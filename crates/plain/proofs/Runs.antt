-- Lists of calls: what each call keeps a list keeps; and of two lists the second goes on from the state that the first led to.
-- Assumes nothing.
use mathlib.Core.List.{List, [], ◌∷◌, ◌++◌}
use mathlib.Core.Path.{◌≡◌, refl, ap}
use Prim.Native.Nat.{ℕ, zero, suc}
use lib.ListN.{length, take}
use Rattle.plain.specs.Answer.{Answer}
use Rattle.plain.specs.Run.{Call, call, run, after}
use Rattle.plain.specs.State.{State}

pub run-append : (st : State) (a b : List Call) → run st (a ++ b) ≡ run st a ++ run (after st a) b
unfolding run after
run-append st [] b = refl
run-append st (c ∷ a) b = ap (λ (l : List Answer). call st c ∷ l) (run-append (call st c).state a b)

-- an answer a call
pub run_length : (st : State) (calls : List Call) → length (run st calls) ≡ length calls
unfolding run
run_length st [] = refl
run_length st (c ∷ calls) = ap suc (run_length (call st c).state calls)

-- the answers to the first i calls
pub run_take : (i : ℕ) (st : State) (calls : List Call) → take i (run st calls) ≡ run st (take i calls)
unfolding run
run_take zero st calls = refl
run_take (suc i) st [] = refl
run_take (suc i) st (c ∷ calls) = ap (λ (l : List Answer). call st c ∷ l) (run_take i (call st c).state calls)

pub after-append : (st : State) (a b : List Call) → after st (a ++ b) ≡ after (after st a) b
unfolding after
after-append st [] b = refl
after-append st (c ∷ a) b = after-append (call st c).state a b

pub after-keeps : (P : State → Type 0) → ((st : State) (c : Call) → P st → P (call st c).state) → (st : State) (calls : List Call) → P st → P (after st calls)
unfolding after
after-keeps P keeps st [] p = p
after-keeps P keeps st (c ∷ calls) p = after-keeps P keeps (call st c).state calls (keeps st c p)
