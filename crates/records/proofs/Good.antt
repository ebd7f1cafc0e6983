-- What a value of a declared type tells: the lengths of its arrays, also of those within its elements.
-- Assumes nothing.
use mathlib.Core.List.{List, [], ◌∷◌}
use mathlib.Core.Path.{◌≡◌}
use Prim.Native.Nat.{ℕ, zero, suc, ◌<◌}
use native.Mathlib.Nat.{not-suc-le-zero, le_of_suc-le-suc}
use lib.ListN.{length, get_or}
use mir.Val.{Val}
use denote.Array.{each}
use denote.Laws.{Is}
use denote.RattleType.{RattleType}
use denote.Shadow.{shadow}
use denote.Struct.Declared.{row}
use Rattle.plain.specs.Lanes.{up_places, line_places}
use Rattle.records.specs.View.{no_row}
use Rattle.records.specs.declared.Arbiter.{Arbiter}
use Rattle.records.specs.declared.Lane.{Lane}
use Rattle.records.specs.declared.Lanes.{Lanes}
use Rattle.records.specs.declared.Record.{Record}
use Rattle.records.specs.declared.Row.{Row}
use Rattle.records.specs.contracts.Arbiter as arbiter-type
use Rattle.records.specs.contracts.Lane as IsLane-type
use Rattle.records.specs.contracts.Lanes as lanes-type
use Rattle.records.specs.contracts.Record as record-type
use Rattle.records.specs.contracts.Row as row_type

-- what owning an array of structs tells of each element
module _ (R : RattleType) (P : R.Denot → Type 0) (known : (a : R.Denot) (vs : List Val) → Is R a vs → P a) (d : R.Denot) where
  pub each_all : (xs : List R.Denot) (us : List Val) → shadow (each R.Denot R.own_val xs us) → (i : ℕ) → i < length xs → P (get_or xs i d)
  each_all [] us s i h = absurd (not-suc-le-zero h)
  each_all (x ∷ xs) [] s i h = absurd s
  each_all (x ∷ xs) (u ∷ us) s zero h = known x (u ∷ []) s.0
  each_all (x ∷ xs) (u ∷ us) s (suc i) h = each_all xs us s.1 i (le_of_suc-le-suc h)

pub slots_of : (l : Lane) (vs : List Val) → Is (row IsLane-type.the_type) l vs → length l.slots ≡ up_places
slots_of l vs p = p.1.1.1.0.1.0.1

pub lanes_of_lem : (w : Row) (vs : List Val) → Is (row row_type.the_type) w vs → length w.lanes ≡ 12
lanes_of_lem w vs p = p.1.1.0.1.0.1

pub rows_of : (t : Lanes) (vs : List Val) → Is (row lanes-type.the_type) t vs → length t.rows ≡ 12
rows_of t vs p = p.1.1.0.1.0.1

pub lanes_of_row : (t : Lanes) (vs : List Val) → Is (row lanes-type.the_type) t vs → (i : ℕ) → i < 12 → length (get_or t.rows i no_row).lanes ≡ 12
lanes_of_row t vs p i h =
    each_all row_type.the_row (λ w. length w.lanes ≡ 12) lanes_of_lem no_row t.rows p.1.1.0.0 p.1.1.0.1.1 i (rw (rows_of t vs p) h)

pub line_of : (a : Arbiter) (vs : List Val) → Is (row arbiter-type.the_type) a vs → length a.line ≡ line_places
line_of a vs p = p.1.1.1.1.0.1.0.1

pub granted_of_lem : (a : Arbiter) (vs : List Val) → Is (row arbiter-type.the_type) a vs → length a.granted ≡ 12
granted_of_lem a vs p = p.1.1.0.1.0.1

pub stations_of : (r : Record) (vs : List Val) → Is (row record-type.the_type) r vs → length r.stations ≡ 12
stations_of r vs p = p.1.1.1.1.1.1.0.1.0.1

pub arbiters_of_lem : (r : Record) (vs : List Val) → Is (row record-type.the_type) r vs → length r.arbiters ≡ 12
arbiters_of_lem r vs p = p.1.1.1.1.1.1.1.0.1.0.1

pub rows_of_up : (r : Record) (vs : List Val) → Is (row record-type.the_type) r vs → length r.up.rows ≡ 12
rows_of_up r vs p = rows_of r.up _ p.1.1.1.1.1.1.1.1.0
