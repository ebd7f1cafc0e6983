-- A record with one of its parts stored anew, and the state that it stands for then.
-- Assumes nothing.
use mathlib.Core.List.{List}
use mathlib.Core.Path.{◌≡◌}
use Prim.Native.Nat.{ℕ, ◌<◌}
use lib.ListN.{length, set}
use Rattle.plain.specs.Updates.{with_phase, with_downs}
use Rattle.plain.specs.declared.Message.{Message}
use Rattle.plain.specs.declared.Phase.{Phase}
use Rattle.records.specs.View.{lanes_of, view}
use Rattle.records.specs.declared.Arbiter.{Arbiter}
use Rattle.records.specs.declared.Lanes.{Lanes}
use Rattle.records.specs.declared.Record.{Record}
use Rattle.records.specs.declared.Station.{Station}
use Rattle.records.proofs.Viewing.{phases_with}

-- ---- all stations, all arbiters, all lanes up, all lanes down

abbrev store_stations : List Station → Record → Record
store_stations stations r =
    record { n = r.n; stock = r.stock; quorums = r.quorums; table = r.table; stations = stations; arbiters = r.arbiters; up = r.up; down = r.down }

abbrev store_arbiters : List Arbiter → Record → Record
store_arbiters arbiters r =
    record { n = r.n; stock = r.stock; quorums = r.quorums; table = r.table; stations = r.stations; arbiters = arbiters; up = r.up; down = r.down }

abbrev pub store_up : Lanes → Record → Record
store_up up r =
    record { n = r.n; stock = r.stock; quorums = r.quorums; table = r.table; stations = r.stations; arbiters = r.arbiters; up = up; down = r.down }

abbrev pub store_down : Lanes → Record → Record
store_down down r =
    record { n = r.n; stock = r.stock; quorums = r.quorums; table = r.table; stations = r.stations; arbiters = r.arbiters; up = r.up; down = down }

-- ---- what station s does, arbiter j

abbrev pub store_phase : ℕ → Phase → Record → Record
store_phase s p r = store_stations (set r.stations s (record { phase = p })) r

abbrev pub store_arbiter : ℕ → Arbiter → Record → Record
store_arbiter j a r = store_arbiters (set r.arbiters j a) r

module _ (r : Record) where
  pub phase-stored : (s : ℕ) (p : Phase) → s < r.n → s < length r.stations → view (store_phase s p r) ≡ with_phase s p (view r)
  unfolding view
  phase-stored s p h l = rw (phases_with r.n r.stations s (record { phase = p }) h l)

  -- lanes that are known
  pub down-stored : (t : Lanes) {lanes : ℕ → ℕ → List Message} → lanes_of r.n t ≡ lanes → view (store_down t r) ≡ with_downs lanes (view r)
  unfolding view
  down-stored t are = rw are
