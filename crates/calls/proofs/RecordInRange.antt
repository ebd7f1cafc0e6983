-- A record in range: its limits, and what of the plain state in range is known of its parts.
-- Assumes nothing.
use mathlib.Core.Bool.{true}
use mathlib.Core.Path.{◌≡◌, sym}
use Prim.Native.Nat.{ℕ, ◌≤◌, ◌<◌}
use native.Mathlib.Omega.{arith}
use lib.Dec.{ltb}
use lib.ListN.{length, get_or, take}
use borrow.Author.Tests.{ltb-true}
use Rattle.lists.proofs.Cuts.{length_cut, cut-take}
use Rattle.lists.proofs.Tests.{and_left}
use Rattle.quorum.specs.Limits.{most_stations, most_quorums}
use Rattle.quorum.proofs.Promises.{Limits, limits_kept}
use Rattle.units.specs.Units.{asked_with}
use Rattle.units.specs.declared.Units.{Units}
use Rattle.plain.specs.InRange.{goes_up, goes_down, phase_in, arbiter_in, in_range}
use Rattle.plain.specs.Lanes.{up_places, down_places}
use Rattle.plain.specs.declared.Phase.TheVariants.{Collecting, Holding}
use Rattle.plain.proofs.LanesInRange.{keeps-short}
use Rattle.plain.proofs.Range.{ranged}
use Rattle.records.specs.View.{no_station, no_arbiter, arbiter_of, lanes_of, table_of, view}
use Rattle.records.specs.declared.Record.{Record}
use Rattle.records.proofs.Viewing.{arbiters_at, phases_at}
use Rattle.calls.specs.Inner.Parts.{Wishes}

module _ (r : Record) where
  pub table-length : length (view r).table ≡ r.quorums
  unfolding view
  table-length = length_cut 0 r.quorums r.table

  pub limits : in_range (view r) ≡ true → Limits r.n (asked_with r.stock) (table_of r)
  unfolding view
  limits e = limits_kept r.n (asked_with r.stock) (table_of r) (ranged (view r) e).limits

  pub few : in_range (view r) ≡ true → r.n ≤ most_stations
  few e = (limits e).stations.1

  pub quorums-few : in_range (view r) ≡ true → r.quorums ≤ most_quorums
  quorums-few e = omega (arith, (limits e).quorums.1, length_cut 0 r.quorums r.table)

  -- the table, as the code lends it
  pub table-read : r.quorums ≤ length r.table → take r.quorums r.table ≡ table_of r
  table-read long = sym (cut-take 0 r.quorums r.table long)

  pub arbiter_in_lem : in_range (view r) ≡ true → (j : ℕ) → j < r.n → arbiter_in r.n r.stock (arbiter_of r.n (get_or r.arbiters j no_arbiter)) ≡ true
  unfolding view
  arbiter_in_lem e j h = rw (arbiters_at r.n r.arbiters j h) at ((ranged (view r) e).arbiters j h)

  pub phase_in_lem : in_range (view r) ≡ true → (s : ℕ) → s < r.n → phase_in r.n r.stock (table_of r) (get_or r.stations s no_station).phase ≡ true
  unfolding view
  phase_in_lem e s h = rw (phases_at r.n r.stations s h) at ((ranged (view r) e).phases s h)

  -- a station that collects or holds works with a quorum of the table
  collects : (q : ℕ) (h : Units) (m : ℕ) → phase_in r.n r.stock (table_of r) (Collecting q h m) ≡ true → q < length (table_of r)
  unfolding phase_in
  collects q h m t = ltb-true q (length (table_of r)) (and_left (ltb q (length (table_of r))) _ t)

  pub wishes : in_range (view r) ≡ true → (s : ℕ) → s < r.n → Wishes r.n (table_of r) (get_or r.stations s no_station).phase
  wishes e s h q u m p =
      let exists = collects q u m (rw p at (phase_in_lem e s h)) in
      (exists, ((limits e).members q exists).1)

  holds_in : (q : ℕ) (h : Units) → phase_in r.n r.stock (table_of r) (Holding q h) ≡ true → q < length (table_of r)
  unfolding phase_in
  holds_in q h t = ltb-true q (length (table_of r)) (and_left (ltb q (length (table_of r))) _ t)

  pub holds : in_range (view r) ≡ true → (s : ℕ) → s < r.n → {q : ℕ} {h : Units} → (get_or r.stations s no_station).phase ≡ Holding q h → q < r.quorums
  holds e s l {q} {h} p = omega (arith, holds_in q h (rw p at (phase_in_lem e s l)), length_cut 0 r.quorums r.table)

  -- lanes keep their limits
  pub up-short : in_range (view r) ≡ true → (s j : ℕ) → s < r.n → j < r.n → length (lanes_of r.n r.up s j) ≤ up_places
  unfolding view
  up-short e s j p q = keeps-short up_places (goes_up r.stock) (lanes_of r.n r.up s j) ((ranged (view r) e).ups s p j q)

  pub down-short : in_range (view r) ≡ true → (s j : ℕ) → s < r.n → j < r.n → length (lanes_of r.n r.down s j) ≤ down_places
  unfolding view
  down-short e s j p q = keeps-short down_places goes_down (lanes_of r.n r.down s j) ((ranged (view r) e).downs s p j q)
