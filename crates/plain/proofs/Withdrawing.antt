-- The lanes up of a station that withdraws.
-- Assumes nothing.
use mathlib.Core.Bool.{true, false, and-true, and-false}
use mathlib.Core.List.{List}
use mathlib.Core.Path.{◌≡◌, ◌∙◌}
use Prim.Native.Nat.{ℕ, ◌≤◌, ◌<◌}
use native.Mathlib.Omega.{arith}
use lib.Dec.{ltb}
use lib.ListN.{length}
use lib.Pow.{pow_pos}
use Rattle.lists.proofs.Changed.{at_same, at_other}
use Rattle.lists.proofs.Tests.{and_right}
use Rattle.stations.specs.Member.{member}
use Rattle.stations.specs.Sets.{everyone}
use Rattle.stations.proofs.Members.{member-and, member_below, member-everyone}
use Rattle.units.specs.Units.{request_in}
use Rattle.units.specs.declared.Units.{Units}
use Rattle.plain.specs.Inner.Passed.{Withdraws}
use Rattle.plain.specs.InRange.{phase_in}
use Rattle.plain.specs.Lanes.{sent}
use Rattle.plain.specs.Release.{releasing}
use Rattle.plain.specs.State.{State}
use Rattle.plain.specs.Withdraw.{below, withdrawing}
use Rattle.plain.specs.declared.Message.{Message}
use Rattle.plain.specs.declared.Message.TheVariants.{Release, Withdraw}
use Rattle.plain.proofs.Range.{ranged}
use Rattle.plain.proofs.Releasing.{releasing-member, releasing_other}

-- ---- the members below one

pub below-member : (q m j : ℕ) → j < m → member (below q m) j ≡ member q j
below-member q m j l = member-and q (everyone m) j ∙ rw (member-everyone m j l) (and-true (member q j))

pub below_none : (q m j : ℕ) → m ≤ j → member (below q m) j ≡ false
below_none q m j l = member-and q (everyone m) j ∙ rw (member_below m (everyone m) j (omega (arith, pow_pos m)) l) (and-false (member q j))

-- ---- the lanes

module _ (q m : ℕ) (lanes : ℕ → List Message) where
  pub withdrawing-here : withdrawing q m lanes m ≡ sent (lanes m) Withdraw
  unfolding withdrawing
  withdrawing-here = at_same (releasing (below q m) lanes) m (sent (lanes m) Withdraw)

  pub withdrawing_elsewhere : (j : ℕ) → (j ≡ m → ⊥) → withdrawing q m lanes j ≡ releasing (below q m) lanes j
  unfolding withdrawing
  withdrawing_elsewhere j d = at_other (releasing (below q m) lanes) m (sent (lanes m) Withdraw) j d

  pub withdrawing-member : (j : ℕ) → j < m → member q j ≡ true → withdrawing q m lanes j ≡ sent (lanes j) Release
  withdrawing-member j l b = withdrawing_elsewhere j (λ e. omega arith) ∙ releasing-member (below q m) lanes j (below-member q m j l ∙ b)

  pub withdrawing_other : (j : ℕ) → j < m → member q j ≡ false → withdrawing q m lanes j ≡ lanes j
  withdrawing_other j l b = withdrawing_elsewhere j (λ e. omega arith) ∙ releasing_other (below q m) lanes j (below-member q m j l ∙ b)

  pub withdrawing-above : (j : ℕ) → m < j → withdrawing q m lanes j ≡ lanes j
  withdrawing-above j l = withdrawing_elsewhere j (λ e. omega arith) ∙ releasing_other (below q m) lanes j (below_none q m j (omega arith))

-- the station that is approached is one of the n
pub approached_below : (st : State) (s q : ℕ) (h : Units) (m : ℕ) → Withdraws st s q h m → ltb m st.n ≡ true
unfolding phase_in
approached_below st s q h m w =
    and_right (request_in st.stock h) (ltb m st.n) (and_right (ltb q (length st.table)) _ (rw w.collecting at ((ranged st w.range).phases s w.station)))
