-- A lane with one message more, and its limit.
-- Assumes nothing.
use mathlib.Core.Bool.{Bool, true, false}
use mathlib.Core.List.{List, ◌∷◌, []}
use mathlib.Core.Logic.{⊎_elim}
use mathlib.Core.Path.{◌≡◌}
use Prim.Native.Nat.{ℕ, ◌≤◌, ◌<◌}
use native.Mathlib.Omega.{arith}
use lib.ListN.{length, length-append}
use borrow.Author.Tests.{lt-ltb, le-ltb, ltb-true, ltb-false}
use Rattle.lists.specs.Broken.{◌when◌, first_broken}
use Rattle.std.proofs.lemmas.Bool.{cases_Bool}
use Rattle.refusals.specs.Numbers.{number_of}
use Rattle.refusals.specs.declared.Refusal.{Refusal}
use Rattle.refusals.proofs.Outcomes.{some_number}
use Rattle.plain.specs.Lanes.{no_place, passes, sent}
use Rattle.plain.specs.declared.Message.{Message}
use Rattle.records.specs.View.{lane_of}
use Rattle.records.specs.declared.Lane.{Lane}
use Rattle.records.proofs.Viewing.{lane-length}

pub lane_full : (limit : ℕ) (l : Lane) (m : Message) → limit ≤ l.len → passes limit (sent (lane_of l) m) ≡ true
lane_full limit l m h = lt-ltb limit (length (sent (lane_of l) m)) (rw (length-append (lane_of l) (m ∷ []), lane-length l) (omega arith))

pub lane_room : (limit : ℕ) (l : Lane) (m : Message) → l.len < limit → passes limit (sent (lane_of l) m) ≡ false
lane_room limit l m h = le-ltb limit (length (sent (lane_of l) m)) (rw (length-append (lane_of l) (m ∷ []), lane-length l) (omega arith))

-- what the one test says by which something is refused for want of a place
pub had_room : (full : Bool) → 0 ≡ first_broken (no_place when full ∷ []) → full ≡ false
had_room full e =
    ⊎_elim (λ (t : full ≡ true). absurd (omega (arith, rw t at e))) (λ (f : full ≡ false). f) (cases_Bool full)

pub was_full : (full : Bool) (r : ℕ) → (r ≡ 0 → ⊥) → r ≡ first_broken (no_place when full ∷ []) → (full ≡ true) × (r ≡ no_place)
was_full full r some e =
    ⊎_elim (λ (t : full ≡ true). (t, rw t at e)) (λ (f : full ≡ false). absurd (some (rw f at e))) (cases_Bool full)

-- a refusal that a `?` hands on was for want of a place
pub no_room : (full : Bool) (e : Refusal) → number_of e ≡ first_broken (no_place when full ∷ []) → (full ≡ true) × (number_of e ≡ no_place)
no_room full e = was_full full (number_of e) (some_number e)

-- how long a lane is that would pass its limit, or would not
pub full_length : (limit : ℕ) (l : List Message) (m : Message) → passes limit (sent l m) ≡ true → limit ≤ length l
full_length limit l m f = omega (arith, ltb-true limit (length (sent l m)) f, length-append l (m ∷ []))

pub room_length : (limit : ℕ) (l : List Message) (m : Message) → passes limit (sent l m) ≡ false → length l < limit
room_length limit l m f = omega (arith, ltb-false limit (length (sent l m)) f, length-append l (m ∷ []))
