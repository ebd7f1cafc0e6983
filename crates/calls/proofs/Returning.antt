-- What is returned besides nothing.
-- Assumes nothing.
use mathlib.Core.Path.{◌≡◌, ap}
use Prim.Native.Nat.{ℕ}
use Rattle.units.specs.declared.Units.{Units}
use Rattle.plain.specs.Answer.{Returned as PlainReturned, nothing, entered_only, left_only, above_only}
use Rattle.calls.specs.Answers.{returned_of}
use Rattle.calls.specs.declared.Returned.{Returned}

module _ (x : Returned) (none : returned_of x ≡ nothing) where
  pub entered_besides : (h : Units) → returned_of (record { entered = h; left = x.left; above = x.above }) ≡ entered_only h
  entered_besides h = ap (λ (y : PlainReturned). record { entered = h; left = y.left; above = y.above }) none

  pub left_besides : (h : Units) → returned_of (record { entered = x.entered; left = h; above = x.above }) ≡ left_only h
  left_besides h = ap (λ (y : PlainReturned). record { entered = y.entered; left = h; above = y.above }) none

  pub above_besides : (a : ℕ) → returned_of (record { entered = x.entered; left = x.left; above = a }) ≡ above_only a
  above_besides a = ap (λ (y : PlainReturned). record { entered = y.entered; left = y.left; above = a }) none
