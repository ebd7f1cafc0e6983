-- Up and Down by the lane that they take a message from: refused by its tests, or passed; and the lane without the message.
-- Assumes nothing.
use mathlib.Core.Bool.{Bool, true}
use mathlib.Core.List.{List, ◌∷◌, []}
use mathlib.Core.Path.{◌≡◌, refl, ap, ◌∙◌}
use Prim.Native.Nat.{ℕ, zero, suc, ◌≤◌, ◌<◌}
use native.Mathlib.Omega.{arith}
use lib.ListN.{length, get_or, drop}
use borrow.Author.Tests.{ne_eqb}
use Rattle.lists.specs.At.{at2}
use Rattle.lists.specs.Broken.{◌when◌, first_broken}
use Rattle.lists.proofs.Broken.{first_earlier}
use Rattle.quorum.specs.Limits.{most_stations}
use Rattle.plain.specs.Answer.{Returned, refused, answered}
use Rattle.plain.specs.Delivery.{lane_tests, delivery_refusal}
use Rattle.plain.specs.Down.{down}
use Rattle.plain.specs.Inner.Passed.{Delivers}
use Rattle.plain.specs.InRange.{in_range}
use Rattle.plain.specs.Lanes.{up_places, no_place, oldest}
use Rattle.plain.specs.State.{State}
use Rattle.plain.specs.Up.{up}
use Rattle.plain.specs.declared.Message.{Message}
use Rattle.plain.proofs.Passed.{delivery}
use Rattle.records.specs.View.{no_slot, message_of, lane_of, lanes_of, view}
use Rattle.records.specs.declared.Lane.{Lane}
use Rattle.records.specs.declared.Slot.{Slot}
use Rattle.records.specs.declared.Lanes.{Lanes}
use Rattle.records.specs.declared.Record.{Record}
use Rattle.records.proofs.Viewing.{lane-length, lanes_at}
use Rattle.calls.specs.Inner.Parts.{lane_in, Takeable, Took, Takes}
use Rattle.calls.proofs.RecordInRange.{up-short, down-short}

-- what stands first in a lane that has a message
first-of : (len : ℕ) (slots : List Slot) → 0 < len → (rest : List Message) × (lane_of (record { len = len; slots = slots }) ≡ message_of (get_or slots 0 no_slot) ∷ rest)
unfolding lane_of
first-of zero slots some = absurd (omega arith)
first-of (suc n) [] some = (_, refl)
first-of (suc n) (x ∷ slots) some = (_, refl)

pub first-in : (l : Lane) → 0 < l.len → (rest : List Message) × (lane_of l ≡ message_of (get_or l.slots 0 no_slot) ∷ rest)
first-in l some = first-of l.len l.slots some

-- a record in range, and 8 or 13
lane-refused : (st : State) (s j : ℕ) (lane : List Message) (full : Message → Bool) (x : Returned) (next : State) (r : ℕ)
    → in_range st ≡ true → r ≡ first_broken (lane_tests st.n s j lane) → (r ≡ 0 → ⊥) → delivery st s j lane full x next ≡ refused st r
unfolding answered delivery_refusal
lane-refused st s j lane full x next r range is some =
    let first = first_earlier (lane_tests st.n s j lane) (no_place when oldest full lane ∷ []) (λ z. some (is ∙ z)) in
    rw (range, first, ← is, ne_eqb r 0 some)

module _ (st : State) (s j r : ℕ) (range : in_range st ≡ true) (some : r ≡ 0 → ⊥) where
  pub up_turned : r ≡ first_broken (lane_tests st.n s j (st.up s j)) → up st s j ≡ refused st r
  unfolding up
  up_turned is = lane-refused st s j (st.up s j) _ _ _ r range is some

  pub down_turned : r ≡ first_broken (lane_tests st.n s j (st.down s j)) → down st s j ≡ refused st r
  unfolding down
  down_turned is = lane-refused st s j (st.down s j) _ _ _ r range is some

-- a message was taken
pub delivers : (r : Record) (s j : ℕ) {lanes : ℕ → ℕ → List Message} {m : Message} (t : Takes r s j lanes m)
    → Delivers (view r) s j (lanes s j) m t.took.rest
unfolding view
delivers r s j t = record { range = t.range; station = t.took.station; arbiter = t.took.arbiter; taken = t.took.oldest }

-- and can leave its lane, if that keeps its limit; the others stay
module _ {n s j : ℕ} (all : Lanes) {m : Message} (few : n ≤ most_stations) (took : Took n s j (lanes_of n all) m) where
  long : length (lanes_of n all s j) ≡ (lane_in all s j).len
  long = ap length (lanes_at n all s j took.station took.arbiter) ∙ lane-length (lane_in all s j)

  pub takeable : length (lanes_of n all s j) ≤ up_places → Takeable all s j
  takeable short =
      record {
        station = omega (arith, took.station);
        arbiter = omega (arith, took.arbiter);
        some = omega (arith, long, ap length took.oldest);
        short = omega (arith, long);
      }

  pub others-stay : (next : Lanes) → ((n : ℕ) → s < n → j < n → lanes_of n next ≡ at2 (lanes_of n all) s j (drop 1 (lanes_of n all s j))) → lanes_of n next ≡ at2 (lanes_of n all) s j took.rest
  others-stay next is = is n took.station took.arbiter ∙ ap (λ (l : List Message). at2 (lanes_of n all) s j (drop 1 l)) took.oldest

-- on a record in range
module _ (r : Record) (s j : ℕ) {m : Message} where
  pub up-takeable : Takes r s j (view r).up m → Takeable r.up s j
  unfolding view
  up-takeable t = takeable r.up t.few t.took (up-short r t.range s j t.took.station t.took.arbiter)

  pub down-takeable : Takes r s j (view r).down m → Takeable r.down s j
  unfolding view
  down-takeable t = takeable r.down t.few t.took (omega (arith, down-short r t.range s j t.took.station t.took.arbiter))

  pub up-without : (t : Takes r s j (view r).up m) (next : Lanes) → ((n : ℕ) → s < n → j < n → lanes_of n next ≡ at2 (lanes_of n r.up) s j (drop 1 (lanes_of n r.up s j)))
      → lanes_of r.n next ≡ at2 (lanes_of r.n r.up) s j t.took.rest
  unfolding view
  up-without t next is = others-stay r.up t.few t.took next is

  pub down-without : (t : Takes r s j (view r).down m) (next : Lanes) → ((n : ℕ) → s < n → j < n → lanes_of n next ≡ at2 (lanes_of n r.down) s j (drop 1 (lanes_of n r.down s j)))
      → lanes_of r.n next ≡ at2 (lanes_of r.n r.down) s j t.took.rest
  unfolding view
  down-without t next is = others-stay r.down t.few t.took next is

  -- and when the station has asked before it takes the message
  module _ (t : Takes r s j (view r).down m) (next : Record) (same : (next.n ≡ r.n) × (next.down ≡ r.down)) where
    pub asked-takeable : Takeable next.down s j
    asked-takeable = rw same.1 (down-takeable t)

    pub asked-without : (rest : Lanes) → ((n : ℕ) → s < n → j < n → lanes_of n rest ≡ at2 (lanes_of n next.down) s j (drop 1 (lanes_of n next.down s j)))
        → lanes_of next.n rest ≡ at2 (lanes_of r.n r.down) s j t.took.rest
    asked-without rest is = ap (λ (n : ℕ). lanes_of n rest) same.0 ∙ down-without t rest (rw same.1 at is)
