-- In range, as tests of the slices of a record's arrays.
-- Assumes nothing.
use mathlib.Core.Bool.{Bool, true, false, cond, not, ◌&&◌, and-false}
use mathlib.Core.List.{List}
use mathlib.Core.Path.{◌≡◌, refl, sym, ap, ◌∙◌}
use Prim.Native.Nat.{ℕ, ◌≤◌, ◌<◌}
use native.Mathlib.Omega.{arith}
use Rattle.std.specs.Prelude.{Result, Ok, Err}
use Rattle.std.specs.Result.{is_ok}
use lib.ListN.{length, take}
use borrow.Author.Tests.{ne_eqb, le-leb, lt-leb}
use Rattle.lists.specs.Cut.{cut}
use Rattle.lists.specs.Search.{all, every_below}
use Rattle.lists.proofs.Cuts.{length_cut, cut-take}
use Rattle.lists.proofs.Searches.{all_map}
use Rattle.lists.proofs.Slices.{every_in_slice}
use Rattle.quorum.specs.Limits.{most_stations, most_quorums, broken_limit}
use Rattle.quorum.proofs.Promises.{limits_kept}
use Rattle.refusals.specs.Numbers.{refusal_of}
use Rattle.refusals.specs.declared.Refusal.{Refusal}
use Rattle.refusals.proofs.Outcomes.{some_number}
use Rattle.units.specs.Granted.{granted_of}
use Rattle.units.specs.Units.{no_units, grant_in, asked_with}
use Rattle.units.specs.declared.Units.{Units}
use Rattle.plain.specs.InRange.{goes_up, goes_down, entry_in, arbiter_in, phase_in, in_range}
use Rattle.plain.specs.Lanes.{up_places, line_places, keeps}
use Rattle.plain.specs.declared.Message.{Message}
use Rattle.records.specs.Inner.Ranges.{goes, lane_places, lane_in, row_in, lanes_in}
use Rattle.records.specs.View.{no_slot, no_lane, no_row, no_entry, no_station, no_arbiter, message_of, lane_of, row_of, lanes_of, phase_of, phases_of, arbiter_of, arbiters_of, table_of, view}
use Rattle.records.specs.declared.Arbiter.{Arbiter}
use Rattle.records.specs.declared.Lane.{Lane}
use Rattle.records.specs.declared.Record.{Record}
use Rattle.records.specs.declared.Row.{Row}
use Rattle.records.specs.declared.Slot.{Slot}
use Rattle.records.specs.declared.Station.{Station}
use Rattle.records.specs.declared.lane_range.Direction.{Direction}
use Rattle.records.specs.declared.lane_range.Direction.TheVariants.{Up, Down}
use Rattle.records.proofs.Viewing.{lane-length}

few : (direction : Direction) → lane_places direction ≤ up_places
few (Up _) = omega arith
few Down = omega arith

-- messages that only go up, and that only go down
abbrev heading : Bool → Units → Direction
heading upward stock = cond upward (Up stock) Down

pub only-up : (m : Message) (upward : Bool) (stock : Units) → goes_up stock m ≡ true → goes_down m ≡ false → upward ≡ goes (heading upward stock) m
only-up m true stock u d = sym u
only-up m false stock u d = sym d

pub only-down : (m : Message) (upward : Bool) (stock : Units) → goes_up stock m ≡ false → goes_down m ≡ true → not upward ≡ goes (heading upward stock) m
only-down m true stock u d = sym u
only-down m false stock u d = sym d

-- a lane that is too long, and one that is not
module _ (direction : Direction) (l : Lane) where
  pub lane_long : lane_places direction < l.len → lane_in direction (lane_of l) ≡ false
  unfolding keeps
  lane_long h = rw (lane-length l, lt-leb l.len (lane_places direction) h)

  pub lane_kept : l.len ≤ lane_places direction → length l.slots ≡ up_places → lane_in direction (lane_of l) ≡ all (λ (s : Slot). goes direction s.message) (take l.len l.slots)
  unfolding keeps lane_of
  lane_kept h e =
      let q : l.len ≤ length l.slots = omega (arith, few direction) in
      rw (lane-length l, le-leb l.len (lane_places direction) h)
      (all_map (goes direction) message_of (cut no_slot l.len l.slots) ∙ ap (all (λ (s : Slot). goes direction s.message)) (cut-take no_slot l.len l.slots q))

-- an arbiter with too long a line, and one without
module _ (n : ℕ) (stock : Units) (a : Arbiter) where
  pub arbiter_long : line_places < a.len → arbiter_in n stock (arbiter_of n a) ≡ false
  unfolding arbiter_in keeps arbiter_of
  arbiter_long h = rw (length_cut no_entry a.len a.line, lt-leb a.len line_places h, and-false _)

  pub arbiter_kept : a.len ≤ line_places → n ≤ length a.granted
      → arbiter_in n stock (arbiter_of n a) ≡ (all (grant_in stock) (take n a.granted) && all (entry_in n stock) (cut no_entry a.len a.line))
  unfolding arbiter_in keeps arbiter_of granted_of
  arbiter_kept h g =
      rw (every_in_slice n no_units (λ u. u) no_units (grant_in stock) a.granted g, length_cut no_entry a.len a.line, le-leb a.len line_places h)

-- rows
module _ (n : ℕ) where
  pub row_kept : (direction : Direction) (w : Row) → n ≤ length w.lanes
      → row_in direction n (row_of n w) ≡ all (λ l. lane_in direction (lane_of l)) (take n w.lanes)
  unfolding row_of
  row_kept direction w h = every_in_slice n _ lane_of no_lane (lane_in direction) w.lanes h

  pub rows_kept : (direction : Direction) (rows : List Row) → n ≤ length rows
      → lanes_in direction n (lanes_of n (record { rows = rows })) ≡ all (λ w. row_in direction n (row_of n w)) (take n rows)
  unfolding lanes_of
  rows_kept direction rows h = every_in_slice n _ (row_of n) no_row (row_in direction n) rows h

-- stations and arbiters
module _ (n : ℕ) (stock : Units) where
  pub stations_kept : (table : List ℕ) (stations : List Station) → n ≤ length stations
      → every_below (λ s. phase_in n stock table (phases_of n stations s)) n ≡ all (λ s. phase_in n stock table (phase_of s)) (take n stations)
  unfolding phases_of
  stations_kept table stations h = every_in_slice n _ phase_of no_station (phase_in n stock table) stations h

  pub arbiters_kept : (arbiters : List Arbiter) → n ≤ length arbiters
      → every_below (λ j. arbiter_in n stock (arbiters_of n arbiters j)) n ≡ all (λ a. arbiter_in n stock (arbiter_of n a)) (take n arbiters)
  unfolding arbiters_of
  arbiters_kept arbiters h = every_in_slice n _ (arbiter_of n) no_arbiter (arbiter_in n stock) arbiters h

-- what `is_ok` says of a refusal's number
pub is_refused : {A : Type 0} (outcome : Result A Refusal) → is_ok outcome ≡ false → refusal_of outcome ≡ 0 → ⊥
is_refused (Ok _) b e = cc
is_refused (Err r) b e = some_number r e

pub is_done : {A : Type 0} (outcome : Result A Refusal) → is_ok outcome ≡ true → refusal_of outcome ≡ 0
is_done (Ok _) b = refl
is_done (Err r) b = cc

-- a table that is too long
pub too_many_quorums : (n k quorums : ℕ) (table : List ℕ) → most_quorums < quorums → broken_limit n k (cut 0 quorums table) ≡ 0 → ⊥
too_many_quorums n k quorums table h e = let l = (limits_kept n k (cut 0 quorums table) e).quorums.1 in omega (arith, length_cut 0 quorums table)

-- a record whose limits are kept
module _ (r : Record) (kept : broken_limit r.n (asked_with r.stock) (table_of r) ≡ 0) where
  pub few_stations : r.n ≤ most_stations
  few_stations = (limits_kept r.n (asked_with r.stock) (table_of r) kept).stations.1

  pub record_kept : length r.stations ≡ 12 → length r.arbiters ≡ 12 → length r.up.rows ≡ 12 → length r.down.rows ≡ 12
      → in_range (view r)
      ≡ (all (λ s. phase_in r.n r.stock (table_of r) (phase_of s)) (take r.n r.stations)
      && (all (λ a. arbiter_in r.n r.stock (arbiter_of r.n a)) (take r.n r.arbiters)
      && (all (λ w. row_in (Up r.stock) r.n (row_of r.n w)) (take r.n r.up.rows)
      && all (λ w. row_in Down r.n (row_of r.n w)) (take r.n r.down.rows))))
  unfolding in_range view
  record_kept s a u d =
      let few = few_stations in
      let p : r.n ≤ length r.stations = omega arith in
      let q : r.n ≤ length r.arbiters = omega arith in
      let t : r.n ≤ length r.up.rows = omega arith in
      let v : r.n ≤ length r.down.rows = omega arith in
      rw (kept, stations_kept r.n r.stock (table_of r) r.stations p, arbiters_kept r.n r.stock r.arbiters q, rows_kept r.n (Up r.stock) r.up.rows t, rows_kept r.n Down r.down.rows v)

-- and one whose limits are not
pub record_broken : (r : Record) → (broken_limit r.n (asked_with r.stock) (table_of r) ≡ 0 → ⊥) → in_range (view r) ≡ false
unfolding in_range view
record_broken r h = rw (ne_eqb (broken_limit r.n (asked_with r.stock) (table_of r)) 0 h)
