-- Whole lists of calls.
use Rattle.std.specs.Prelude.{List, [], ◌∷◌, ◌≡◌, ℕ, ◌+◌, ◌≤◌}
use Rattle.units.specs.Units.{Amount, amount}
use Rattle.units.specs.declared.Units.{Units}
use Rattle.plain.specs.Answer.{Answer}
use Rattle.plain.specs.Down.{down}
use Rattle.plain.specs.Release.{release}
use Rattle.plain.specs.Request.{request}
use Rattle.plain.specs.State.{State}
use Rattle.plain.specs.Up.{up}
use Rattle.plain.specs.Withdraw.{withdraw}

-- "Request, Up, Down and Release, with any numbers as arguments"; "Lists with withdrawals"
pub data Call : Type 0 where
  Request : (station quorum : ℕ) (units : Units) → Call
  Up : (station arbiter : ℕ) → Call
  Down : (station arbiter : ℕ) → Call
  Release : (station : ℕ) → Call
  Withdraw : (station : ℕ) → Call

-- the answer to one of them
unfoldable pub call : State → Call → Answer
call st (Call.Request s q h) = request st s q h
call st (Call.Up s j) = up st s j
call st (Call.Down s j) = down st s j
call st (Call.Release s) = release st s
call st (Call.Withdraw s) = withdraw st s

-- "goes on from the record that it returned last": the answers to a list of calls
unfoldable pub run : State → List Call → List Answer
run st [] = []
run st (c ∷ calls) = call st c ∷ run (call st c).state calls

-- the state after a list of calls
unfoldable pub after : State → List Call → State
after st [] = st
after st (c ∷ calls) = after (call st c).state calls

-- "the sum of the units entered in all answers": of one amount
unfoldable pub entered : Amount → List Answer → ℕ
entered a [] = 0
entered a (x ∷ answers) = amount a x.entered + entered a answers

-- "the sum of the units left in all answers"
unfoldable pub left : Amount → List Answer → ℕ
left a [] = 0
left a (x ∷ answers) = amount a x.left + left a answers

-- "The difference is the sum of the units entered in all answers less the sum of the units left in all answers": it is d
abbrev pub Difference : Amount → List Answer → ℕ → Type 0
Difference a answers d = entered a answers ≡ left a answers + d

-- "all units entered less all units left lie between 0 and k": of each amount, between 0 and that amount of the stock
abbrev pub WithinStock : Units → List Answer → Type 0
WithinStock stock answers = (a : Amount) → (d : ℕ) × (d ≤ amount a stock) × Difference a answers d
