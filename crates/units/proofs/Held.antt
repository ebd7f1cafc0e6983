-- The machine has a value of units that are no more than a stock: each amount fits its width.
-- Assumes nothing.
use mathlib.Core.List.{[], ◌∷◌}
use mathlib.Core.Path.{refl}
use Prim.Native.Nat.{◌≤◌}
use native.Mathlib.Omega.{arith}
use mir.Val.{Val}
use denote.Laws.{Is}
use denote.Struct.Laws.{owes}
use Rattle.quorum.specs.Limits.{most_units}
use Rattle.units.specs.Units.{Amount, amount, asked_with}
use Rattle.units.specs.declared.Units.{Units}
use Rattle.units.proofs.Amounts.{amount-asked}
use Rattle.units.specs.contracts.Units.{the_type, the_row}
use Rattle.units.proofs.Units.TheLaws.{the_laws}

pub units-held : (u : Units) → asked_with u ≤ most_units → (v : Val) × Is the_row u (v ∷ [])
unfolding amount
units-held u le =
    (_, owes the_type the_laws u ((refl, omega (arith, amount-asked u Amount.positions)), tt))
