-- Release on a record, from the facts that its parts give; and what it shares with Withdraw.
-- Assumes nothing.
use mathlib.Core.Bool.{true, false, not}
use mathlib.Core.List.{List}
use mathlib.Core.Path.{◌≡◌, refl, sym, ap, ◌∙◌}
use Prim.Native.Nat.{ℕ, ◌<◌, ◌^◌}
use native.Mathlib.Omega.{arith}
use lib.ListN.{length, get_or, set}
use Rattle.lists.specs.At.{at}
use Rattle.lists.specs.Search.{some_below}
use Rattle.lists.proofs.Cuts.{length_cut}
use Rattle.quorum.specs.Family.{quorum}
use Rattle.quorum.specs.Limits.{most_quorums}
use Rattle.units.specs.declared.Units.{Units}
use Rattle.plain.specs.Answer.{left_only, refused, done}
use Rattle.plain.specs.Inner.Passed.{Releases}
use Rattle.plain.specs.Lanes.{no_place}
use Rattle.plain.specs.Release.{is_holding, releasing, release_passes, given_back, release}
use Rattle.plain.specs.Updates.{with_phase, with_ups}
use Rattle.plain.specs.declared.Message.{Message}
use Rattle.plain.specs.declared.Phase.{Phase}
use Rattle.plain.specs.declared.Phase.TheVariants.{Idle, Holding}
use Rattle.plain.proofs.Passed.{release_full, release-done, release-refused}
use Rattle.records.specs.View.{no_row, row_of, view}
use Rattle.records.specs.declared.Record.{Record}
use Rattle.records.specs.declared.Row.{Row}
use Rattle.records.proofs.Storing.{store_phase, store_up, phase-stored}
use Rattle.records.proofs.Viewing.{quorum-at, rows_at, rows_with}
use Rattle.calls.specs.Inner.Parts.{Stands}
use Rattle.calls.proofs.LastArms.{not-holding}
use Rattle.calls.proofs.RecordInRange.{limits, quorums-few, holds}
use Rattle.calls.proofs.StationTests.{station_kept, phase_read, phase_is}

-- ---- what both do

-- quorum q, and the lanes up of station s, as the code reads them
abbrev pub set_of_lem : Record → ℕ → ℕ
set_of_lem r q = get_or r.table q 0

abbrev pub lanes_of_lem : Record → ℕ → ℕ → List Message
lanes_of_lem r s = row_of r.n (get_or r.up.rows s no_row)

-- the record with the station in this phase, and with these lanes up
pub row_stored : (r : Record) (s : ℕ) (p : Phase) (row : Row) → s < r.n → s < length r.stations → s < length r.up.rows
    → view (store_phase s p (store_up (record { rows = set r.up.rows s row }) r)) ≡ with_phase s p (with_ups (at (view r).up s (row_of r.n row)) (view r))
unfolding view
row_stored r s p row station stations rows =
    phase-stored (store_up (record { rows = set r.up.rows s row }) r) s p station stations ∙ rw (rows_with r.n r.up s row station rows)

-- the quorum and the lanes are those that the plain machine reads
module _ (r : Record) (s q : ℕ) (station : s < r.n) (exists : q < r.quorums) where
  pub as-read : (P : ℕ → (ℕ → List Message) → Type 0) → P (set_of_lem r q) (lanes_of_lem r s) → P (quorum (view r).table q) ((view r).up s)
  unfolding view
  as-read P p = rw (quorum-at r q exists, rows_at r.n r.up s station) p

-- ---- Release

module _ (r : Record) (s : ℕ) (stands : Stands r s) where
  -- 12
  pub holds-nothing : ((q : ℕ) (h : Units) → phase_read r s stands ≡ Holding q h → ⊥) → release (view r) s ≡ refused (view r) 12
  holds-nothing none =
      release-refused (view r) s 2 (station_kept r s stands, ap (λ (p : Phase). not (is_holding p)) (phase_is r s stands) ∙ not-holding (phase_read r s stands) none) refl

  module _ (q : ℕ) (h : Units) (holding : phase_read r s stands ≡ Holding q h) where
    abbrev releases : Releases (view r) s q h
    unfolding view
    releases = record { range = stands.range; station = stands.station; holding = phase_is r s stands ∙ holding }

    exists : q < r.quorums
    exists = holds r stands.range s stands.station holding

    pub held-number : q < most_quorums
    held-number = omega (arith, exists, quorums-few r stands.range)

    pub held-set : set_of_lem r q < 2 ^ r.n
    held-set = rw (quorum-at r q exists) at ((limits r stands.range).members q (omega (arith, exists, length_cut 0 r.quorums r.table))).1

    pub full_back : some_below (release_passes (set_of_lem r q) (lanes_of_lem r s)) r.n ≡ true → release (view r) s ≡ refused (view r) no_place
    unfolding view
    full_back f = release_full (view r) s releases (as-read r s q stands.station exists (λ set lanes. some_below (release_passes set lanes) r.n ≡ true) f)

    pub goes_back : (row : Row) → some_below (release_passes (set_of_lem r q) (lanes_of_lem r s)) r.n ≡ false → row_of r.n row ≡ releasing (set_of_lem r q) (lanes_of_lem r s)
        → release (view r) s ≡ done (left_only h) (with_phase s Idle (with_ups (at (view r).up s (row_of r.n row)) (view r)))
    unfolding view given_back
    goes_back row f goes =
        release-done (view r) s releases (as-read r s q stands.station exists (λ set lanes. some_below (release_passes set lanes) r.n ≡ false) f)
        ∙ ap (λ (lanes : ℕ → List Message). done (left_only h) (with_phase s Idle (with_ups (at (view r).up s lanes) (view r))))
        (as-read r s q stands.station exists (λ set lanes. releasing set lanes ≡ row_of r.n row) (sym goes))
