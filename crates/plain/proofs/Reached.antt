-- What is known of every state that calls lead to from the fresh state of a table that passes 1 to 4, in one place.
-- Assumes nothing.
use mathlib.Core.Bool.{true}
use mathlib.Core.List.{List}
use mathlib.Core.Path.{◌≡◌}
use Prim.Native.Nat.{ℕ}
use Rattle.quorum.specs.Limits.{broken_limit}
use Rattle.units.specs.Units.{asked_with}
use Rattle.units.specs.declared.Units.{Units}
use Rattle.plain.specs.InRange.{in_range}
use Rattle.plain.specs.Run.{Call, call, after}
use Rattle.plain.specs.State.{State, fresh}
use Rattle.plain.proofs.Invariant.{Invariant}
use Rattle.plain.proofs.InvariantKept.{fresh_keeps, call-keeps}
use Rattle.plain.proofs.ArbitersServed.{LinesServed, fresh-served, call-served}
use Rattle.plain.proofs.Runs.{after-keeps}
use Rattle.plain.proofs.StaysInRange.{fresh_in_range, call_in_range}

pub record Reached (st : State) : Type 0 where
  pub range : in_range st ≡ true
  pub invariant : Invariant st
  pub lines : LinesServed st

pub fresh_reached : (n : ℕ) (stock : Units) (table : List ℕ) → broken_limit n (asked_with stock) table ≡ 0 → Reached (fresh n stock table)
fresh_reached n stock table kept =
    record { range = fresh_in_range n stock table kept; invariant = fresh_keeps n stock table; lines = fresh-served n stock table }

pub call_reached : (st : State) (c : Call) → Reached st → Reached (call st c).state
call_reached st c r = record { range = call_in_range st c r.range; invariant = call-keeps st c r.invariant; lines = call-served st c r.lines }

pub calls_reached : (n : ℕ) (stock : Units) (table : List ℕ) → broken_limit n (asked_with stock) table ≡ 0 → (calls : List Call) → Reached (after (fresh n stock table) calls)
calls_reached n stock table kept calls = after-keeps Reached call_reached (fresh n stock table) calls (fresh_reached n stock table kept)
