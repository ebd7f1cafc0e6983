-- While a station withdraws, one WITHDRAW or GONE of its own is under way, and otherwise none.
-- Assumes nothing.
use mathlib.Core.Bool.{true, cond}
use mathlib.Core.List.{List}
use mathlib.Core.Path.{◌≡◌, refl, ◌∙◌}
use Prim.Native.Nat.{ℕ, ◌+◌}
use native.Mathlib.Omega.{arith}
use lib.Dec.{eqb, ltb}
use borrow.Author.Tests.{ltb-true}
use Rattle.lists.specs.At.{at}
use Rattle.lists.specs.Counting.{total}
use Rattle.lists.proofs.Tests.{either}
use Rattle.lists.proofs.Totals.{total-same, total-none, total-at}
use Rattle.stations.specs.Member.{member}
use Rattle.quorum.specs.Family.{quorum}
use Rattle.units.specs.declared.Units.{Units}
use Rattle.plain.specs.Run.{Call, after}
use Rattle.plain.specs.State.{State, fresh}
use Rattle.plain.specs.Withdrawn.{is_withdrawing, withdrawals_in, withdrawals_of}
use Rattle.plain.specs.declared.Phase.{Phase}
use Rattle.plain.specs.declared.Phase.TheVariants.{Idle, Collecting, Holding, Withdrawing}
use Rattle.plain.proofs.Invariant.{approaches, Invariant}
use Rattle.plain.proofs.InvariantKept.{fresh_keeps, calls_keep}
use Rattle.plain.proofs.Pairs.{Part}
use Rattle.plain.proofs.PairSizes.{withdrawals_for, pair_withdrawals}
use Rattle.plain.proofs.Wants.{share, wants}

-- WITHDRAW and GONE between a station and an arbiter of which it has units, or wants nothing
share_messages : (table : List ℕ) (q : ℕ) (h : Units) (j : ℕ) → withdrawals_for (share table q h j) ≡ 0
unfolding share
share_messages table q h j = either (λ p. withdrawals_for p ≡ 0) (member (quorum table q) j) refl refl

-- and between a station in a phase and all arbiters
total-messages : (n : ℕ) (table : List ℕ) (a : ℕ) (p : Phase) → approaches n table a p ≡ true → total (λ j. withdrawals_for (wants table a p j)) n ≡ cond (is_withdrawing p) 1 0
unfolding approaches wants at
total-messages n table a Idle e = total-none (λ j. 0) n (λ j l. refl)
total-messages n table a (Collecting q h m) e =
    total-none (λ j. withdrawals_for (wants table a (Collecting q h m) j)) n
    (λ j l. either (λ p. withdrawals_for p ≡ 0) (eqb j m) refl (either (λ p. withdrawals_for p ≡ 0) (ltb j m) (share_messages table q h j) refl))
total-messages n table a (Holding q h) e = total-none (λ j. withdrawals_for (share table q h j)) n (λ j l. share_messages table q h j)
total-messages n table a Withdrawing e =
    omega (arith, total-at withdrawals_for (λ j. Part.nothing) a Part.leaves n (ltb-true a n e), total-none (λ j. 0) n (λ j l. refl))

pub kept_messages : (st : State) → Invariant st → (s : ℕ) → withdrawals_of st s ≡ cond (is_withdrawing (st.phase s)) 1 0
kept_messages st i s =
    total-same (λ j. withdrawals_in (st.up s j) + withdrawals_in (st.down s j)) (λ j. withdrawals_for (wants st.table (i.leaving s) (st.phase s) j)) st.n (λ j l. pair_withdrawals (i.pairs s j))
    ∙ total-messages st.n st.table (i.leaving s) (st.phase s) (i.members s)

-- in every state that calls lead to from a fresh one, for every station
pub one_under_way : (n : ℕ) (stock : Units) (table : List ℕ) (calls : List Call) (s : ℕ)
    → withdrawals_of (after (fresh n stock table) calls) s ≡ cond (is_withdrawing ((after (fresh n stock table) calls).phase s)) 1 0
one_under_way n stock table calls s = kept_messages (after (fresh n stock table) calls) (calls_keep (fresh n stock table) calls (fresh_keeps n stock table)) s
