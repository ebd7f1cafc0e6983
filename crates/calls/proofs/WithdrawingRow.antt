-- The lanes up of a station that withdraws, as the code makes them: first RELEASE, then WITHDRAW.
-- Assumes nothing.
use mathlib.Core.Bool.{false, ◌||◌}
use mathlib.Core.List.{List}
use mathlib.Core.Path.{◌≡◌, sym, ap, ap₂, ◌∙◌}
use Prim.Native.Nat.{ℕ, ◌≤◌, ◌<◌, ◌^◌, min}
use native.Mathlib.Omega.{arith}
use lib.Bits.{bit_and, and_le_l}
use Rattle.lists.specs.At.{at}
use Rattle.lists.specs.Search.{some_below}
use Rattle.stations.specs.Sets.{everyone, places}
use Rattle.stations.proofs.Members.{everyone-min}
use Rattle.plain.specs.Lanes.{up_places, passes, sent}
use Rattle.plain.specs.Release.{releasing, release_passes}
use Rattle.plain.specs.Withdraw.{below, withdrawing}
use Rattle.plain.specs.declared.Message.{Message}
use Rattle.plain.specs.declared.Message.TheVariants.{Withdraw}
use Rattle.plain.proofs.Releasing.{releasing_other}
use Rattle.plain.proofs.Withdrawing.{below_none}
use Rattle.records.specs.View.{row_of}
use Rattle.records.specs.declared.Row.{Row}

-- the members below m, as the code finds them
pub below_is : (set m first : ℕ) → m ≤ places → first ≡ everyone (min m places) → bit_and set first ≡ below set m
below_is set m first few is = ap (bit_and set) (is ∙ everyone-min m few)

pub below-small : (n set m : ℕ) → set < 2 ^ n → below set m < 2 ^ n
below-small n set m small = omega (arith, and_le_l set (everyone m))

-- RELEASE has gone up to the members below m: of the lanes w there are now these
pub record ReleasedBelow (n : ℕ) (w : Row) (set m : ℕ) (row : Row) : Type 0 where
  pub member : m < n
  pub room : some_below (release_passes (below set m) (row_of n w)) n ≡ false
  pub lanes : row_of n row ≡ releasing (below set m) (row_of n w)

module _ {n : ℕ} {w : Row} {set m : ℕ} {row : Row} (r : ReleasedBelow n w set m row) where
  -- none to m
  approached : row_of n w m ≡ row_of n row m
  approached = sym (releasing_other (below set m) (row_of n w) m (below_none set m m (omega arith))) ∙ ap (λ (lanes : ℕ → List Message). lanes m) (sym r.lanes)

  pub withdraw_passes : (some_below (release_passes (below set m) (row_of n w)) n || passes up_places (sent (row_of n w m) Withdraw)) ≡ passes up_places (sent (row_of n row m) Withdraw)
  withdraw_passes = rw (r.room, approached)

  pub withdraw-goes : at (row_of n row) m (sent (row_of n row m) Withdraw) ≡ withdrawing set m (row_of n w)
  unfolding withdrawing
  withdraw-goes = ap₂ (λ (lanes : ℕ → List Message) (lane : List Message). at lanes m (sent lane Withdraw)) r.lanes (sym approached)
