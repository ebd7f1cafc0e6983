-- The units granted to each station, from an array.
use Rattle.std.specs.Prelude.{List, ℕ}
use Rattle.lists.specs.Shown.{shown}
use Rattle.units.specs.Units.{no_units}
use Rattle.units.specs.declared.Units.{Units}

-- of n stations: none from n on, and none past the array's end
unfoldable pub granted_of : ℕ → List Units → ℕ → Units
granted_of n granted = shown n no_units (λ u. u) no_units granted
