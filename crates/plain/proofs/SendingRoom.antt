-- A station that asks, gives back or gives up always finds room for what it sends, in every state that calls lead to: the call keeps the
-- table of situations whether it found room or not, and no lane up of that table has more than three messages.
-- Assumes nothing.
use mathlib.Core.Bool.{false, and-false}
use mathlib.Core.List.{List}
use mathlib.Core.Logic.{by_cases}
use mathlib.Core.Path.{◌≡◌}
use Prim.Native.Nat.{ℕ, ◌≤◌}
use native.Mathlib.Decide.{ℕ_discrete}
use native.Mathlib.Omega.{arith}
use lib.ListN.{length}
use borrow.Author.Tests.{le-ltb}
use Rattle.lists.proofs.Changed.{at_same, at2-same}
use Rattle.lists.proofs.Searches.{some_empty}
use Rattle.stations.specs.Member.{member}
use Rattle.quorum.specs.Family.{quorum}
use Rattle.units.specs.declared.Units.{Units}
use Rattle.plain.specs.Asking.{asked}
use Rattle.plain.specs.Inner.Passed.{Requests, Releases, Withdraws}
use Rattle.plain.specs.Lanes.{up_places, passes, sent}
use Rattle.plain.specs.Release.{releasing, release_passes, some_passes, given_back}
use Rattle.plain.specs.Request.{lowest, request_passes, requested}
use Rattle.plain.specs.State.{State}
use Rattle.plain.specs.Withdraw.{below, withdrawing, leaving_passes, given_up}
use Rattle.plain.specs.declared.Message.{Message}
use Rattle.plain.specs.declared.Message.TheVariants.{Withdraw}
use Rattle.plain.proofs.Invariant.{Invariant, request-keeps, release-keeps}
use Rattle.plain.proofs.InvariantKept.{withdraw-keeps}
use Rattle.plain.proofs.PairSizes.{pair_up}
use Rattle.plain.proofs.Withdrawing.{below_none, withdrawing-here, withdrawing_elsewhere}

three_fit : (lane : List Message) → length lane ≤ 3 → passes up_places lane ≡ false
three_fit lane few = le-ltb up_places (length lane) (omega arith)

module _ (st : State) (i : Invariant st) (s q : ℕ) (h : Units) where
  pub request-room : Requests st s q h → request_passes st s q h ≡ false
  unfolding requested
  request-room r =
      three_fit (asked st s h (lowest st q)) (rw (at2-same st.up s (lowest st q) (asked st s h (lowest st q))) at (pair_up ((request-keeps st s q h r i).pairs s (lowest st q))))

  pub release-room : Releases st s q h → some_passes st s q ≡ false
  unfolding given_back
  release-room r =
      let set = quorum st.table q in
      some_empty (release_passes set (st.up s)) st.n
      (λ j l. rw (three_fit (releasing set (st.up s) j) (rw (at_same st.up s (releasing set (st.up s))) at (pair_up ((release-keeps st s q h r i).pairs s j)))) (and-false (member set j)))

  pub withdraw-room : (m : ℕ) → Withdraws st s q h m → leaving_passes st s q m ≡ false
  unfolding given_up
  withdraw-room m w = rw (some_empty (release_passes (below set m) (st.up s)) st.n (λ j l. to_member j)) to_approached
    where
      set : ℕ
      set = quorum st.table q

      short : (j : ℕ) → length (withdrawing set m (st.up s) j) ≤ 3
      short j = rw (at_same st.up s (withdrawing set m (st.up s))) at (pair_up ((withdraw-keeps st s q h m w i).pairs s j))

      to_approached : passes up_places (sent (st.up s m) Withdraw) ≡ false
      to_approached = three_fit (sent (st.up s m) Withdraw) (rw (withdrawing-here set m (st.up s)) at (short m))

      to_member : (j : ℕ) → release_passes (below set m) (st.up s) j ≡ false
      to_member j =
          by_cases (ℕ_discrete j m)
          (λ (e : j ≡ m). rw (e, below_none set m m (omega arith)))
          (λ (o : j ≡ m → ⊥). rw (three_fit (releasing (below set m) (st.up s) j) (rw (withdrawing_elsewhere set m (st.up s) j o) at (short j))) (and-false (member (below set m) j)))
