-- What a load reads and what a store changes, seen as the plain machine's state.
-- Assumes nothing.
use mathlib.Core.List.{List, [], ◌∷◌, map}
use mathlib.Core.Path.{◌≡◌, sym, ap, ◌∙◌}
use Prim.Native.Nat.{ℕ, zero, suc, ◌+◌, ◌-◌, ◌≤◌, ◌<◌}
use native.Mathlib.Nat.{not-suc-le-zero}
use native.Mathlib.Numerals.{sub-one}
use native.Mathlib.Omega.{arith}
use lib.ListN.{length, get_or, set, length-map}
use Rattle.lists.specs.At.{at, at2}
use Rattle.lists.specs.Cut.{cut}
use Rattle.lists.proofs.Arrays.{shown_in, shown-set}
use Rattle.lists.proofs.Cuts.{length_cut, cut_push, cut-within, get_or-cut}
use Rattle.std.proofs.lemmas.List.{map-append}
use Rattle.quorum.specs.Family.{quorum}
use Rattle.plain.specs.Lanes.{up_places, sent}
use Rattle.plain.specs.declared.Message.{Message}
use Rattle.records.specs.View.{no_slot, no_lane, no_row, no_station, no_arbiter, message_of, lane_of, row_of, lanes_of, phase_of, phases_of, arbiter_of, arbiters_of, table_of}
use Rattle.records.specs.declared.Arbiter.{Arbiter}
use Rattle.records.specs.declared.Lane.{Lane}
use Rattle.records.specs.declared.Lanes.{Lanes}
use Rattle.records.specs.declared.Record.{Record}
use Rattle.records.specs.declared.Row.{Row}
use Rattle.records.specs.declared.Slot.{Slot}
use Rattle.records.specs.declared.Station.{Station}

-- ---- one lane

pub lane-length : (l : Lane) → length (lane_of l) ≡ l.len
unfolding lane_of
lane-length l = length-map (cut no_slot l.len l.slots) message_of ∙ length_cut no_slot l.len l.slots

pub lane_empty : (l : Lane) → l.len ≡ 0 → lane_of l ≡ []
unfolding lane_of
lane_empty l e = rw e

-- a message in the place after the last
pub lane_put : (len : ℕ) (slots : List Slot) (m : Message) → length slots ≡ up_places → len < up_places
    → lane_of (record { len = len + 1; slots = set slots len (record { message = m }) }) ≡ sent (lane_of (record { len = len; slots = slots })) m
unfolding lane_of
lane_put len slots m e h =
    let h' : len < length slots = omega arith in
    rw (cut_push no_slot len slots (record { message = m }) h') (map-append message_of (cut no_slot len slots) (record { message = m } ∷ []))

-- all messages but the first, one place on
pub lane-take : (len : ℕ) (slots : List Slot) → length slots ≡ up_places → 0 < len → len ≤ up_places
    → lane_of (record { len = len; slots = slots })
    ≡ message_of (get_or slots 0 no_slot)
    ∷ lane_of (record { len = len - 1; slots = get_or slots 1 no_slot ∷ get_or slots 2 no_slot ∷ get_or slots 3 no_slot ∷ get_or slots 3 no_slot ∷ [] })
unfolding lane_of
lane-take zero xs e p q = absurd (not-suc-le-zero p)
lane-take (suc n) [] e p q = absurd (omega arith)
lane-take (suc n) (a ∷ []) e p q = absurd (omega arith)
lane-take (suc n) (a ∷ b ∷ []) e p q = absurd (omega arith)
lane-take (suc n) (a ∷ b ∷ c ∷ []) e p q = absurd (omega arith)
lane-take (suc n) (a ∷ b ∷ c ∷ d ∷ []) e p q =
    let h : n ≤ 3 = omega arith in
    rw sub-one (ap (λ (l : List Message). message_of a ∷ l) (sym (ap (map message_of) (cut-within no_slot n (b ∷ c ∷ d ∷ []) (d ∷ []) h))))
lane-take (suc n) (a ∷ b ∷ c ∷ d ∷ x ∷ xs) e p q = absurd (omega arith)

-- ---- the lanes of a station, and of all stations

module _ (n : ℕ) where
  pub row_at : (w : Row) (j : ℕ) → j < n → row_of n w j ≡ lane_of (get_or w.lanes j no_lane)
  unfolding row_of
  row_at w j h = shown_in n [] lane_of no_lane w.lanes j h

  pub row_with : (w : Row) (j : ℕ) (l : Lane) → j < n → j < length w.lanes → row_of n (record { lanes = set w.lanes j l }) ≡ at (row_of n w) j (lane_of l)
  unfolding row_of
  row_with w j l h q = shown-set n [] lane_of no_lane w.lanes j l h q

  pub rows_at : (t : Lanes) (s : ℕ) → s < n → lanes_of n t s ≡ row_of n (get_or t.rows s no_row)
  unfolding lanes_of
  rows_at t s h = shown_in n _ (row_of n) no_row t.rows s h

  pub rows_with : (t : Lanes) (s : ℕ) (w : Row) → s < n → s < length t.rows → lanes_of n (record { rows = set t.rows s w }) ≡ at (lanes_of n t) s (row_of n w)
  unfolding lanes_of
  rows_with t s w h q = shown-set n _ (row_of n) no_row t.rows s w h q

  pub lanes_at : (t : Lanes) (s j : ℕ) → s < n → j < n → lanes_of n t s j ≡ lane_of (get_or (get_or t.rows s no_row).lanes j no_lane)
  lanes_at t s j p q = ap (λ (row : ℕ → List Message). row j) (rows_at t s p) ∙ row_at (get_or t.rows s no_row) j q

  pub lanes_with : (t : Lanes) (s j : ℕ) (l : Lane) → s < length t.rows → j < length (get_or t.rows s no_row).lanes → s < n → j < n
      → lanes_of n (record { rows = set t.rows s (record { lanes = set (get_or t.rows s no_row).lanes j l }) }) ≡ at2 (lanes_of n t) s j (lane_of l)
  lanes_with t s j l a b p q =
      rows_with t s (record { lanes = set (get_or t.rows s no_row).lanes j l }) p a
      ∙ ap (at (lanes_of n t) s) (row_with (get_or t.rows s no_row) j l q b ∙ ap (λ (row : ℕ → List Message). at row j (lane_of l)) (sym (rows_at t s p)))

  -- ---- stations and arbiters

  pub phases_at : (stations : List Station) (s : ℕ) → s < n → phases_of n stations s ≡ (get_or stations s no_station).phase
  unfolding phases_of
  phases_at stations s h = shown_in n _ phase_of no_station stations s h

  pub phases_with : (stations : List Station) (s : ℕ) (x : Station) → s < n → s < length stations → phases_of n (set stations s x) ≡ at (phases_of n stations) s x.phase
  unfolding phases_of
  phases_with stations s x h q = shown-set n _ phase_of no_station stations s x h q

  pub arbiters_at : (arbiters : List Arbiter) (j : ℕ) → j < n → arbiters_of n arbiters j ≡ arbiter_of n (get_or arbiters j no_arbiter)
  unfolding arbiters_of
  arbiters_at arbiters j h = shown_in n _ (arbiter_of n) no_arbiter arbiters j h

  pub arbiters_with : (arbiters : List Arbiter) (j : ℕ) (x : Arbiter) → j < n → j < length arbiters → arbiters_of n (set arbiters j x) ≡ at (arbiters_of n arbiters) j (arbiter_of n x)
  unfolding arbiters_of
  arbiters_with arbiters j x h q = shown-set n _ (arbiter_of n) no_arbiter arbiters j x h q

-- ---- the table

pub quorum-at : (r : Record) (q : ℕ) → q < r.quorums → quorum (table_of r) q ≡ get_or r.table q 0
quorum-at r q h = get_or-cut 0 r.quorums r.table q h
