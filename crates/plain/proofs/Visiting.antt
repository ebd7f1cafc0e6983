-- One station collects while nothing else is under way: how it begins, and where it passes by.
-- Assumes nothing.
use mathlib.Core.Bool.{true, false, cond}
use mathlib.Core.List.{[], ◌∷◌}
use mathlib.Core.Path.{◌≡◌, refl, sym, ap, ◌∙◌}
use Prim.Native.Nat.{ℕ, suc, ◌+◌, ◌≤◌, ◌<◌}
use native.Mathlib.Numerals.{add-one}
use native.Mathlib.Omega.{arith}
use lib.Dec.{ltb}
use lib.ListN.{length}
use borrow.Author.Tests.{lt-ltb}
use Rattle.lists.specs.Counting.{total}
use Rattle.lists.proofs.Changed.{at_same, at_other, at2-same, at2_other}
use Rattle.stations.specs.Member.{member}
use Rattle.stations.specs.Sets.{places, lowest_from}
use Rattle.stations.proofs.Lowest.{lowest_later}
use Rattle.quorum.specs.Family.{quorum}
use Rattle.units.specs.Units.{request_in, Amount, amount}
use Rattle.units.specs.declared.Units.{Units}
use Rattle.units.proofs.Amounts.{Within}
use Rattle.plain.specs.Inner.Passed.{Requests}
use Rattle.plain.specs.InRange.{in_range}
use Rattle.plain.specs.Lanes.{sent}
use Rattle.plain.specs.Request.{lowest, requested}
use Rattle.plain.specs.Run.{Call, call}
use Rattle.plain.specs.State.{State}
use Rattle.plain.specs.declared.Message.TheVariants.{Request}
use Rattle.plain.specs.declared.Phase.{Phase}
use Rattle.plain.specs.declared.Phase.TheVariants.{Idle, Collecting, Holding}
use Rattle.plain.proofs.Approaching.{Lowest_member, first_member}
use Rattle.plain.proofs.Passed.{request-done}
use Rattle.plain.proofs.Range.{ranged}
use Rattle.plain.proofs.StaysInRange.{call_in_range}

-- the amount that arbiter j has granted
abbrev pub granted_at : Amount → State → ℕ → ℕ
granted_at a st j = total (λ s. amount a ((st.arbiter j).granted s)) st.n

-- no message is under way and no line has an entry, the stations from s on are idle, and no arbiter has granted more than the stock, nor more
-- of the amount than its load
pub record Calm (a : Amount) (st : State) (s : ℕ) (load : ℕ → ℕ) : Type 0 where
  pub range : in_range st ≡ true
  pub idle : (t : ℕ) → s ≤ t → st.phase t ≡ Idle
  pub ups : (t j : ℕ) → j < st.n → st.up t j ≡ []
  pub downs : (t j : ℕ) → st.down t j ≡ []
  pub lines : (j : ℕ) → (st.arbiter j).line ≡ []
  pub within : (j : ℕ) → Within st.n st.stock (st.arbiter j).granted
  pub loads : (j : ℕ) → granted_at a st j ≤ load j

-- the phase of a station whose next member is m, 16 if there is none
unfoldable pub toward : ℕ → Units → ℕ → Phase
toward p h m = cond (ltb m places) (Collecting p h m) (Holding p h)

-- station s collects the units h by the quorum p and has them of the members below i; REQUEST is under way to the next; the phases of the
-- others are as they were
pub record Visiting (a : Amount) (st : State) (was : ℕ → Phase) (s p : ℕ) (h : Units) (i : ℕ) (load : ℕ → ℕ) : Type 0 where
  pub range : in_range st ≡ true
  pub phase : st.phase s ≡ toward p h (lowest_from (quorum st.table p) i)
  pub others : (t : ℕ) → (t ≡ s → ⊥) → st.phase t ≡ was t
  pub asked : lowest_from (quorum st.table p) i < places → st.up s (lowest_from (quorum st.table p) i) ≡ Request h ∷ []
  pub ups : (t j : ℕ) → j < st.n → (t ≡ s → j ≡ lowest_from (quorum st.table p) i → ⊥) → st.up t j ≡ []
  pub downs : (t j : ℕ) → st.down t j ≡ []
  pub lines : (j : ℕ) → (st.arbiter j).line ≡ []
  pub within : (j : ℕ) → Within st.n st.stock (st.arbiter j).granted
  pub unvisited : (j : ℕ) → i ≤ j → granted_at a st j ≤ load j
  pub loads : (j : ℕ) → granted_at a st j ≤ load j + cond (member (quorum st.table p) j) (amount a h) 0

-- ---- Request: the lowest member is asked

module _ (a : Amount) (st : State) (s p : ℕ) (h : Units) (load : ℕ → ℕ) (calm : Calm a st s load) (exists : s < st.n) (number : p < length st.table) (units : request_in st.stock h ≡ true) where
  first : Lowest_member st.n (quorum st.table p) 0 (lowest st p)
  first = first_member st.n st.stock st.table (ranged st calm.range).limits p number

  passed : Requests st s p h
  passed = record { range = calm.range; station = exists; quorum = number; units = units; idle = calm.idle s (omega arith) }

  pub asked-done : (call st (Call.Request s p h)).state ≡ requested st s p h
  unfolding call
  asked-done = ap (λ x. x.state) (request-done st s p h passed (rw (calm.ups s (lowest st p) first.station) refl))

  pub request-visits : Visiting a (requested st s p h) st.phase s p h 0 load
  unfolding requested toward
  request-visits =
      record {
        range = rw (sym asked-done) (call_in_range st (Call.Request s p h) calm.range);
        phase = rw (at_same st.phase s (Collecting p h (lowest st p)), lt-ltb (lowest st p) places first.place);
        others = λ t o. at_other st.phase s (Collecting p h (lowest st p)) t o;
        asked = λ l. rw (at2-same st.up s (lowest st p) (sent (st.up s (lowest st p)) (Request h)), calm.ups s (lowest st p) first.station);
        ups = λ t j l o. at2_other st.up s (lowest st p) (sent (st.up s (lowest st p)) (Request h)) t j o ∙ calm.ups t j l;
        downs = calm.downs;
        lines = calm.lines;
        within = calm.within;
        unvisited = λ j l. calm.loads j;
        loads = λ j. omega (arith, calm.loads j);
      }

-- ---- no member: nothing to do

pub pass_by : (a : Amount) (st : State) (was : ℕ → Phase) (s p : ℕ) (h : Units) (i : ℕ) (load : ℕ → ℕ) → Visiting a st was s p h i load → i < places → member (quorum st.table p) i ≡ false
    → Visiting a st was s p h (suc i) load
pass_by a st was s p h i load v place other =
    let next : lowest_from (quorum st.table p) i ≡ lowest_from (quorum st.table p) (suc i) = rw (sym (add-one i)) (lowest_later (quorum st.table p) i place other) in
    record {
      range = v.range;
      phase = rw next at v.phase;
      others = v.others;
      asked = rw next at v.asked;
      ups = rw next at v.ups;
      downs = v.downs;
      lines = v.lines;
      within = v.within;
      unvisited = λ j l. v.unvisited j (omega arith);
      loads = v.loads;
    }
