-- The state of the plain machine that a record stands for: what is in use of its arrays.
use Rattle.std.specs.Prelude.{List, [], map, ℕ}
use Rattle.lists.specs.Cut.{cut}
use Rattle.lists.specs.Shown.{shown}
use Rattle.units.specs.Granted.{granted_of}
use Rattle.units.specs.Units.{no_units}
use Rattle.plain.specs.State.{Arbiter as PlainArbiter, State, empty_arbiter}
use Rattle.plain.specs.declared.Entry.{Entry}
use Rattle.plain.specs.declared.Message.{Message}
use Rattle.plain.specs.declared.Message.TheVariants.{Request}
use Rattle.plain.specs.declared.Phase.{Phase}
use Rattle.plain.specs.declared.Phase.TheVariants.{Idle}
use Rattle.records.specs.declared.Arbiter.{Arbiter}
use Rattle.records.specs.declared.Lane.{Lane}
use Rattle.records.specs.declared.Lanes.{Lanes}
use Rattle.records.specs.declared.Record.{Record}
use Rattle.records.specs.declared.Row.{Row}
use Rattle.records.specs.declared.Slot.{Slot}
use Rattle.records.specs.declared.Station.{Station}

-- ---- what stands for a place past the end of an array: a record made by hand may give such a length

abbrev pub no_slot : Slot
no_slot = record { message = Request no_units }

abbrev pub no_lane : Lane
no_lane = record { len = 0; slots = [] }

abbrev pub no_row : Row
no_row = record { lanes = [] }

abbrev pub no_entry : Entry
no_entry = record { station = 0; units = no_units }

abbrev pub no_station : Station
no_station = record { phase = Idle }

abbrev pub no_arbiter : Arbiter
no_arbiter = record { granted = []; len = 0; line = [] }

-- ---- "Unused places of an array (stations from n on, beyond the length of a table, lane or line) do not belong to the record"

abbrev pub message_of : Slot → Message
message_of s = s.message

-- a lane: as many messages as its length says
unfoldable pub lane_of : Lane → List Message
lane_of l = map message_of (cut no_slot l.len l.slots)

-- the lanes of one station, by arbiter: empty from n on
unfoldable pub row_of : ℕ → Row → ℕ → List Message
row_of n w = shown n [] lane_of no_lane w.lanes

-- and of all stations
unfoldable pub lanes_of : ℕ → Lanes → ℕ → ℕ → List Message
lanes_of n t = shown n (λ j. []) (row_of n) no_row t.rows

abbrev pub phase_of : Station → Phase
phase_of s = s.phase

-- what each station does: idle from n on
unfoldable pub phases_of : ℕ → List Station → ℕ → Phase
phases_of n stations = shown n Idle phase_of no_station stations

-- an arbiter of n stations
unfoldable pub arbiter_of : ℕ → Arbiter → PlainArbiter
arbiter_of n a = record { granted = granted_of n a.granted; line = cut no_entry a.len a.line }

-- all arbiters: empty from n on
unfoldable pub arbiters_of : ℕ → List Arbiter → ℕ → PlainArbiter
arbiters_of n arbiters = shown n empty_arbiter (arbiter_of n) no_arbiter arbiters

-- the table: as many quorums as its length says
abbrev pub table_of : Record → List ℕ
table_of r = cut 0 r.quorums r.table

unfoldable pub view : Record → State
view r =
    record {
      n = r.n;
      stock = r.stock;
      table = table_of r;
      phase = phases_of r.n r.stations;
      arbiter = arbiters_of r.n r.arbiters;
      up = lanes_of r.n r.up;
      down = lanes_of r.n r.down;
    }
