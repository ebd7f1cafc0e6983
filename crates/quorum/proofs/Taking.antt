-- The loop that takes the first family: what it has taken, and what it will take, are the lowering quorums.
-- Assumes nothing.
use mathlib.Core.List.{List, ◌∷◌, ◌++◌, append-nil}
use mathlib.Core.Path.{◌≡◌, sym, ap, ◌∙◌}
use Prim.Native.Nat.{ℕ, ◌+◌, ◌≤◌, ◌<◌, ◌^◌}
use native.Mathlib.Nat.{zero-add}
use native.Mathlib.Omega.{arith}
use lib.Bits.{bit_and, and_le_l}
use lib.ListN.{length, get_or, drop, set, length-set}
use lib.Pow.{ones_lt}
use lib.Seq.{append_snoc}
use Rattle.lists.specs.Cut.{cut}
use Rattle.lists.proofs.Cuts.{cut_push, length_cut}
use Rattle.stations.specs.Sets.{everyone}
use Rattle.quorum.specs.Family.{quorum}
use Rattle.quorum.specs.FirstFamily.{first_family}
use Rattle.quorum.specs.Inner.Need.{Needs, no_need, lowering}
use Rattle.quorum.specs.Limits.{most_stations}
use Rattle.quorum.proofs.Lowering.{reached, one_less, lowering_first, lowering-length, lowering-takes, lowering_skips, lowering_end}

pub record Taking (n : ℕ) (table bytes family : List ℕ) (size rest p : ℕ) : Type 0 where
  pub within : p ≤ length table
  pub fits : rest < 2 ^ n
  pub places : length family ≡ most_stations
  pub still : size + get_or bytes rest 0 ≡ get_or bytes (everyone n) 0
  pub list : cut 0 size family ++ lowering bytes rest p (drop p table) ≡ lowering bytes (everyone n) 0 table

-- at the start nothing is taken
pub taking_none : (n : ℕ) (table bytes family : List ℕ) (rest : ℕ) → length family ≡ most_stations → rest ≡ everyone n
    → Taking n table bytes family 0 rest 0
taking_none n table bytes family rest size all =
    record {
      within = omega arith;
      fits = omega (arith, ones_lt n);
      places = size;
      still = zero-add (get_or bytes rest 0) ∙ ap (λ (s : ℕ). get_or bytes s 0) all;
      list = ap (λ (s : ℕ). lowering bytes s 0 table) all;
    }

module _ (n : ℕ) (table bytes : List ℕ) (few : n ≤ most_stations) (needs : Needs n table bytes)
    (some : 0 < n) (finite : get_or bytes (everyone n) 0 ≡ no_need → ⊥) (family : List ℕ) (size rest p : ℕ) (t : Taking n table bytes family size rest p) where
  most : get_or bytes (everyone n) 0 ≤ most_stations
  most = omega (arith, (reached n table few bytes needs (everyone n) (ones_lt n) finite).2)

  -- the array has a place for each quorum taken
  pub taking_room : (v : ℕ) → v < get_or bytes rest 0 → size < most_stations
  taking_room v lowers = omega (arith, most, t.still)

  pub taking_takes : p < length table → (left : ℕ) → left ≡ bit_and rest (quorum table p) → get_or bytes left 0 < get_or bytes rest 0
      → Taking n table bytes (set family size p) (size + 1) left (p + 1)
  taking_takes h left is lowers =
      let byte : get_or bytes left 0 ≡ get_or bytes (bit_and rest (quorum table p)) 0 = ap (λ (s : ℕ). get_or bytes s 0) is in
      record {
        within = omega arith;
        fits = omega (arith, and_le_l rest (quorum table p), t.fits);
        places = length-set family size p ∙ t.places;
        still = omega (arith, one_less n table few bytes needs rest p t.fits h (λ e. omega (arith, most, t.still)) (omega arith), t.still);
        list =
            ap (λ (l : List ℕ). l ++ lowering bytes left (p + 1) (drop (p + 1) table)) (cut_push 0 size family p (omega (arith, t.places, taking_room (get_or bytes left 0) lowers)))
            ∙ append_snoc (cut 0 size family) p (lowering bytes left (p + 1) (drop (p + 1) table))
            ∙ ap (λ (s : ℕ). cut 0 size family ++ p ∷ lowering bytes s (p + 1) (drop (p + 1) table)) is
            ∙ ap (λ (l : List ℕ). cut 0 size family ++ l) (sym (lowering-takes bytes rest table p h (omega arith)))
            ∙ t.list;
      }

  pub taking_skips : p < length table → (left : ℕ) → left ≡ bit_and rest (quorum table p) → get_or bytes rest 0 ≤ get_or bytes left 0
      → Taking n table bytes family size rest (p + 1)
  taking_skips h left is no-use =
      let byte : get_or bytes left 0 ≡ get_or bytes (bit_and rest (quorum table p)) 0 = ap (λ (s : ℕ). get_or bytes s 0) is in
      record {
        within = omega arith;
        fits = t.fits;
        places = t.places;
        still = t.still;
        list = ap (λ (l : List ℕ). cut 0 size family ++ l) (sym (lowering_skips bytes rest table p h (omega arith))) ∙ t.list;
      }

  -- at the end the first family is taken
  pub taking_all : length table ≤ p → cut 0 (get_or bytes (everyone n) 0) family ≡ first_family n table
  taking_all end =
      let list = sym (append-nil (cut 0 size family)) ∙ ap (λ (l : List ℕ). cut 0 size family ++ l) (sym (lowering_end bytes rest table p end)) ∙ t.list in
      let same : size ≡ get_or bytes (everyone n) 0 = sym (length_cut 0 size family) ∙ ap length list ∙ lowering-length n table few bytes needs some finite in
      ap (λ (i : ℕ). cut 0 i family) (sym same) ∙ list ∙ lowering_first n table few bytes needs some finite
