-- The bound: on an accepted table, and of each amount, units entered less units left lie between 0 and the stock, after every list of calls.
-- Assumes nothing.
use mathlib.Core.Bool.{true, false, cond}
use mathlib.Core.List.{List, [], ◌∷◌}
use mathlib.Core.Logic.{⊎_elim}
use mathlib.Core.Path.{◌≡◌, refl, ap}
use Prim.Native.Nat.{ℕ, zero, suc, ◌+◌, ◌≤◌}
use native.Mathlib.Omega.{arith}
use lib.Dec.{leb, ltb}
use lib.ListN.{length}
use borrow.Author.Tests.{ltb-true, leb-true, leb-false}
use Rattle.lists.specs.Counting.{total}
use Rattle.lists.proofs.Tests.{either, and_left}
use Rattle.std.proofs.lemmas.Bool.{cases_Bool}
use Rattle.lists.proofs.Totals.{total-within}
use Rattle.quorum.specs.Accepted.{Accepted}
use Rattle.quorum.specs.Arbiter.{InAll}
use Rattle.quorum.specs.Family.{Numbers}
use Rattle.quorum.specs.Width.{lacks_common}
use Rattle.quorum.proofs.Promises.{common-member}
use Rattle.units.specs.Units.{request_in, Amount, amount, asked_with}
use Rattle.units.specs.declared.Units.{Units}
use Rattle.units.proofs.Amounts.{amount-none, amount-asked}
use Rattle.plain.specs.InRange.{phase_in}
use Rattle.plain.specs.Release.{held}
use Rattle.plain.specs.Run.{Call, run, after, WithinStock}
use Rattle.plain.specs.State.{State, fresh}
use Rattle.plain.specs.declared.Phase.{Phase}
use Rattle.plain.specs.declared.Phase.TheVariants.{Idle, Collecting, Holding, Withdrawing}
use Rattle.plain.proofs.Held.{held_by, difference_held}
use Rattle.plain.proofs.Invariant.{Invariant}
use Rattle.plain.proofs.InvariantKept.{fresh_keeps, calls_keep}
use Rattle.plain.proofs.Pairs.{has_granted}
use Rattle.plain.proofs.Range.{Ranged, ranged}
use Rattle.plain.proofs.SameTable.{calls_same}
use Rattle.plain.proofs.StaysInRange.{fresh_in_range, calls_in_range}
use Rattle.plain.proofs.Wants.{wants_holding, share_member}

-- the quorums of those of the first i stations that hold some of the amount
with_quorum : Amount → Phase → List ℕ → List ℕ
with_quorum a Idle f = f
with_quorum a (Collecting q h m) f = f
with_quorum a (Holding q h) f = cond (leb 1 (amount a h)) (q ∷ f) f
with_quorum a Withdrawing f = f

quorums : Amount → (ℕ → Phase) → ℕ → List ℕ
quorums a phase zero = []
quorums a phase (suc i) = with_quorum a (phase i) (quorums a phase i)

module _ (st : State) (range : Ranged st) (inv : Invariant st) (a : Amount) where
  abbrev holders : ℕ → List ℕ
  holders i = quorums a st.phase i

  -- they are numbers of the table
  numbers : (i : ℕ) → i ≤ st.n → Numbers (length st.table) (holders i)
  unfolding quorums with_quorum phase_in
  numbers zero h = Numbers.none
  numbers (suc i) h = go (st.phase i) (range.phases i (omega arith)) (numbers i (omega arith))
    where
      go : (p : Phase) → phase_in st.n st.stock st.table p ≡ true → Numbers (length st.table) (holders i) → Numbers (length st.table) (with_quorum a p (holders i))
      go Idle e f = f
      go (Collecting q u m) e f = f
      go (Holding q u) e f =
          either (Numbers (length st.table)) (leb 1 (amount a u))
          (Numbers.and (ltb-true q (length st.table) (and_left (ltb q (length st.table)) (request_in st.stock u) e)) f) f
      go Withdrawing e f = f

  -- each holds at least one unit, so there are no more of them than units
  fewer : (i : ℕ) → length (holders i) ≤ held_by a st.phase i
  unfolding quorums with_quorum total
  fewer zero = omega arith
  fewer (suc i) = go (st.phase i) (fewer i)
    where
      go : (p : Phase) → length (holders i) ≤ held_by a st.phase i → length (with_quorum a p (holders i)) ≤ amount a (held p) + held_by a st.phase i
      go Idle f = omega arith
      go (Collecting q u m) f = omega arith
      go (Holding q u) f =
          ⊎_elim (λ (t : leb 1 (amount a u) ≡ true). rw t (omega (arith, leb-true 1 (amount a u) t))) (λ (t : leb 1 (amount a u) ≡ false). rw t (omega arith))
          (cases_Bool (leb 1 (amount a u)))
      go Withdrawing f = omega arith

  one_more : (i : ℕ) → length (holders (suc i)) ≤ suc (length (holders i))
  unfolding quorums with_quorum
  one_more i = go (st.phase i)
    where
      go : (p : Phase) → length (with_quorum a p (holders i)) ≤ suc (length (holders i))
      go Idle = omega arith
      go (Collecting q u m) = omega arith
      go (Holding q u) = either (λ f. length f ≤ suc (length (holders i))) (leb 1 (amount a u)) {x = q ∷ holders i} {y = holders i} (omega arith) (omega arith)
      go Withdrawing = omega arith

  -- an arbiter in all their quorums has granted all that they hold
  all-granted : (j i : ℕ) → InAll st.table j (holders i) → held_by a st.phase i ≤ total (λ s. amount a ((st.arbiter j).granted s)) i
  unfolding quorums with_quorum total
  all-granted j zero in_all = omega arith
  all-granted j (suc i) in_all = go (st.phase i) refl in_all (all-granted j i)
    where
      granted : ℕ → ℕ
      granted s = amount a ((st.arbiter j).granted s)

      holder : (q : ℕ) (u : Units) → st.phase i ≡ Holding q u → InAll st.table j (q ∷ holders i)
          → (InAll st.table j (holders i) → held_by a st.phase i ≤ total granted i) → amount a u + held_by a st.phase i ≤ granted i + total granted i
      holder q u e (InAll.and belongs rest) before =
          let mine = has_granted (rw (e, wants_holding st.table (inv.leaving i) q u j, share_member st.table q u j belongs) at (inv.pairs i j)) in
          omega (arith, before rest, ap (amount a) mine)

      go : (p : Phase) → st.phase i ≡ p → InAll st.table j (with_quorum a p (holders i))
          → (InAll st.table j (holders i) → held_by a st.phase i ≤ total granted i)
          → amount a (held p) + held_by a st.phase i ≤ granted i + total granted i
      go Idle e x before = omega (arith, amount-none a, before x)
      go (Collecting q u m) e x before = omega (arith, amount-none a, before x)
      go Withdrawing e x before = omega (arith, amount-none a, before x)
      go (Holding q u) e x before =
          ⊎_elim (λ (t : leb 1 (amount a u) ≡ true). holder q u e (rw t at x) before)
          (λ (t : leb 1 (amount a u) ≡ false). omega (arith, leb-false 1 (amount a u) t, before (rw t at x)))
          (cases_Bool (leb 1 (amount a u)))

  -- station by station: the holders so far and the next are at most one more than the stock has of the amount, which is at most the k that
  -- the table was asked with, so their quorums have a common member, which has granted what they hold; and no arbiter grants more than the
  -- stock
  held-within : lacks_common st.n (asked_with st.stock) st.table ≡ false → (i : ℕ) → i ≤ st.n → held_by a st.phase i ≤ amount a st.stock
  unfolding total
  held-within common zero h = omega arith
  held-within common (suc i) h =
      let before = held-within common i (omega arith) in
      let few : length (holders (suc i)) ≤ asked_with st.stock + 1 = omega (arith, one_more i, fewer i, amount-asked st.stock a) in
      let c = common-member st.n (asked_with st.stock) st.table range.limits common (holders (suc i)) (numbers (suc i) h) few in
      let granted = all-granted c.station (suc i) c.in_all in
      let all = total-within (λ s. amount a ((st.arbiter c.station).granted s)) (suc i) st.n h in
      omega (arith, granted, all, inv.stock c.station a)

-- "after the list all units entered less all units left lie between 0 and k": for every n, stock and table that is accepted for its k and
-- every list of calls from the fresh state, of each amount
pub bounded : (n : ℕ) (stock : Units) (table : List ℕ) → Accepted n (asked_with stock) table → (calls : List Call) → WithinStock stock (run (fresh n stock table) calls)
unfolding fresh
bounded n stock table accepted calls a =
    let end = after (fresh n stock table) calls in
    let range = ranged end (calls_in_range (fresh n stock table) calls (fresh_in_range n stock table accepted.limits)) in
    let inv = calls_keep (fresh n stock table) calls (fresh_keeps n stock table) in
    let same = calls_same (fresh n stock table) calls in
    let common : lacks_common end.n (asked_with end.stock) end.table ≡ false = rw (same.n, same.stock, same.table) accepted.common in
    let within = held-within end range inv a common end.n (omega arith) in
    (held_by a end.phase end.n, omega (arith, within, ap (amount a) same.stock), difference_held a n stock table calls)
