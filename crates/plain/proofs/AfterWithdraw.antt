-- What a withdrawal leaves behind: no entry in the line once WITHDRAW has arrived, and once GONE has, no station that withdraws.
-- Assumes nothing.
use mathlib.Core.Bool.{false}
use mathlib.Core.List.{[]}
use mathlib.Core.Path.{◌≡◌, refl}
use Prim.Native.Nat.{ℕ}
use Rattle.lists.proofs.Changed.{at_same}
use Rattle.plain.specs.Arbiter.{arrived, units_in}
use Rattle.plain.specs.Down.{left, phase_then}
use Rattle.plain.specs.State.{Arbiter, State}
use Rattle.plain.specs.Withdrawn.{is_withdrawing}
use Rattle.plain.specs.declared.Message.TheVariants.{Withdraw}
use Rattle.plain.specs.declared.Phase.{Phase}
use Rattle.plain.specs.declared.Phase.TheVariants.{Idle, Collecting, Holding, Withdrawing}
use Rattle.plain.proofs.Dropping.{without_own}

pub entry_gone : (s : ℕ) (a : Arbiter) → units_in s (arrived Withdraw s a).line ≡ []
unfolding arrived
entry_gone s a = without_own s a.line

-- whatever the station did
pub gone_ends : (st : State) (s : ℕ) → is_withdrawing (phase_then st s (left (st.phase s)) s) ≡ false
unfolding left
gone_ends st s = go (st.phase s) refl
  where
    go : (p : Phase) → st.phase s ≡ p → is_withdrawing (phase_then st s (left p) s) ≡ false
    go Idle e = rw e
    go (Collecting q h m) e = rw e
    go (Holding q h) e = rw e
    go Withdrawing e = rw (at_same st.phase s Idle)
