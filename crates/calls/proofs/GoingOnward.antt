-- What a station makes of a GRANT, from the lowest member that the code finds above the arbiter.
-- Assumes nothing.
use mathlib.Core.Bool.{true}
use mathlib.Core.List.{List}
use mathlib.Core.Path.{◌≡◌, refl, sym, ap, ◌∙◌}
use Prim.Native.Nat.{ℕ, suc, ◌+◌, ◌≤◌, ◌<◌, ◌^◌}
use native.Mathlib.Numerals.{add-one}
use native.Mathlib.Omega.{arith}
use lib.Dec.{ltb}
use borrow.Author.Tests.{ltb-true, eqb-true, lt-ltb, le-ltb, eq-eqb, ne_eqb}
use Rattle.lists.proofs.Tests.{and_both, and_left, and_right}
use Rattle.stations.specs.Sets.{places, lowest_from, members_above, next_from}
use Rattle.stations.specs.declared.NextMember.{NextMember}
use Rattle.stations.proofs.Above.{next-member, next-above}
use Rattle.stations.proofs.Lowest.{lowest_from_lem}
use Rattle.stations.proofs.Members.{member-station}
use Rattle.quorum.specs.Family.{quorum}
use Rattle.units.specs.declared.Units.{Units}
use Rattle.plain.specs.Down.{Taken, onward, taken}
use Rattle.plain.specs.declared.Phase.{Phase}
use Rattle.plain.specs.declared.Phase.TheVariants.{Idle, Collecting, Holding, Withdrawing}
use Rattle.calls.specs.Inner.Takings.{within}
use Rattle.calls.specs.declared.asking.Wish.{Wish}
use Rattle.calls.specs.declared.downs.Taking.{Taking}
use Rattle.calls.specs.declared.downs.Taking.TheVariants.{Asks}

-- a lowest member of a set of stations below n is one of them
lowest-below : (n set i : ℕ) → set < 2 ^ n → lowest_from set i < places → lowest_from set i < n
lowest-below n set i small h = member-station n set (lowest_from set i) small ((lowest_from_lem set i).found h).1

module _ (table : List ℕ) (q : ℕ) (h : Units) (j set : ℕ) (is : quorum table q ≡ set) (next : NextMember) (found : next ≡ next_from set (j + 1)) where
  above : lowest_from (quorum table q) (suc j) ≡ next.member
  above = ap (λ (x : ℕ). lowest_from x (suc j)) is ∙ ap (lowest_from set) (sym (add-one j)) ∙ sym (next-member set (j + 1) next found)

  pub onward-holds : places ≤ next.member → onward table q h j ≡ Taken.holds q h
  unfolding onward
  onward-holds l = rw (above, le-ltb next.member places l)

  module _ (l : next.member < places) where
    pub onward-asks : onward table q h j ≡ Taken.asks q h next.member
    unfolding onward
    onward-asks = rw (above, lt-ltb next.member places l)

    -- a station that is asked is one of the n, with so many members above it
    pub asks-within : (n : ℕ) → set < 2 ^ n → within n table (Asks (record { quorum = q; units = h; member = next.member; above = next.above })) ≡ true
    asks-within n small =
        let lowest = next-member set (j + 1) next found in
        and_both (lt-ltb next.member n (omega (arith, lowest-below n set (j + 1) small (omega (arith, lowest)))))
        (eq-eqb next.above (members_above (quorum table q) next.member) (next-above set (j + 1) next found ∙ ap (λ (x : ℕ). members_above x next.member) (sym is)))

pub asked-within : (n : ℕ) (table : List ℕ) {t : Taking} {w : Wish} → t ≡ Asks w → within n table t ≡ true → (w.member < n) × (w.above ≡ members_above (quorum table w.quorum) w.member)
asked-within n table {t} {w} e is =
    let asked = sym (ap (within n table) e) ∙ is in
    (ltb-true w.member n (and_left (ltb w.member n) _ asked), eqb-true w.above (members_above (quorum table w.quorum) w.member) (and_right (ltb w.member n) _ asked))

module _ (table : List ℕ) (j : ℕ) where
  -- it collects from another arbiter, or does not collect
  pub taken_elsewhere : {p : Phase} {q : ℕ} {h : Units} {m : ℕ} → p ≡ Collecting q h m → (m ≡ j → ⊥) → taken table j p ≡ Taken.drops
  unfolding taken
  taken_elsewhere {p} {q} {h} {m} e d = rw (e, ne_eqb m j d)

  pub taken_here : {p : Phase} {q : ℕ} {h : Units} {m : ℕ} → p ≡ Collecting q h m → m ≡ j → taken table j p ≡ onward table q h j
  unfolding taken
  taken_here {p} {q} {h} {m} e d = rw (e, eq-eqb m j d)

  pub taken-nothing : (p : Phase) → ((q : ℕ) (h : Units) (m : ℕ) → p ≡ Collecting q h m → ⊥) → taken table j p ≡ Taken.drops
  unfolding taken
  taken-nothing Idle k = refl
  taken-nothing (Collecting q h m) k = absurd (k q h m refl)
  taken-nothing (Holding q h) k = refl
  taken-nothing Withdrawing k = refl
