-- `calls::sending::send` meets its contract. First GONE, if it is sent; then the lanes are those in which the entries before the one in hand were granted;
-- none passed its limit.
-- Assumes nothing.
use mathlib.Core.Path.{◌≡◌}
use Prim.Native.Nat.{ℕ, ◌≤◌, ◌<◌}
use lib.ListN.{length}
use Rattle.plain.specs.Lanes.{down_places}
use Rattle.records.specs.View.{lanes_of}
use Rattle.calls.proofs.SendingGrants.{granted_before}
use Rattle.calls.proofs.sending.send.Given as goal

abbrev pub invariant-loop-entry : goal.invariant-loop-entry
invariant-loop-entry l =
    (lanes_of l.n l.down ≡ granted_before (lanes_of l.n l.initial.down) l.j l.grants l.entry-index)
    × ((t : ℕ) → t < l.n → length (granted_before (lanes_of l.n l.initial.down) l.j l.grants l.entry-index t l.j) ≤ down_places)
