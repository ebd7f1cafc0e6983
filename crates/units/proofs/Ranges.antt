-- Units in range: of a request, of a grant, of a stock.
-- Assumes nothing.
use mathlib.Core.Bool.{true}
use mathlib.Core.Path.{◌≡◌}
use Prim.Native.Nat.{◌≤◌}
use native.Mathlib.Omega.{arith}
use lib.Dec.{leb}
use borrow.Author.Tests.{le-leb, leb-true}
use Rattle.lists.proofs.Tests.{and_right}
use Rattle.units.specs.Units.{no_units, request_in, grant_in, Amount, amount}
use Rattle.units.specs.declared.Units.{Units}

module _ (stock : Units) where
  -- none are in range of a grant, and so are units that were asked for
  pub none-granted : grant_in stock no_units ≡ true
  unfolding grant_in
  none-granted = le-leb 0 stock.positions (omega arith)

  pub request-granted : (u : Units) → request_in stock u ≡ true → grant_in stock u ≡ true
  unfolding request_in grant_in
  request-granted u e = and_right (leb 1 u.positions) (leb u.positions stock.positions) e

  -- no amount of them is larger than the stock's
  pub granted-amount : (u : Units) → grant_in stock u ≡ true → (a : Amount) → amount a u ≤ amount a stock
  unfolding grant_in amount
  granted-amount u e Amount.positions = leb-true u.positions stock.positions e
