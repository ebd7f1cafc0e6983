-- The last arm of a match: which phases or messages are left for it, and what is the same of them all.
-- Assumes nothing.
use mathlib.Core.Bool.{true, not}
use mathlib.Core.List.{List}
use mathlib.Core.Path.{◌≡◌, refl}
use Prim.Native.Nat.{ℕ}
use Rattle.units.specs.declared.Units.{Units}
use Rattle.plain.specs.Down.{Taken, made_of}
use Rattle.plain.specs.Release.{is_holding}
use Rattle.plain.specs.Withdraw.{is_collecting}
use Rattle.plain.specs.declared.Message.{Message}
use Rattle.plain.specs.declared.Message.TheVariants.{Request, Release, Grant, Withdraw, Gone}
use Rattle.plain.specs.declared.Phase.{Phase}
use Rattle.plain.specs.declared.Phase.TheVariants.{Idle, Collecting, Holding, Withdrawing}

-- all but Holding
pub not-holding : (p : Phase) → ((q : ℕ) (h : Units) → p ≡ Holding q h → ⊥) → not (is_holding p) ≡ true
not-holding Idle k = refl
not-holding (Collecting q h m) k = refl
not-holding (Holding q h) k = absurd (k q h refl)
not-holding Withdrawing k = refl

-- all but Collecting
pub not-collecting : (p : Phase) → ((q : ℕ) (h : Units) (m : ℕ) → p ≡ Collecting q h m → ⊥) → not (is_collecting p) ≡ true
not-collecting Idle k = refl
not-collecting (Collecting q h m) k = absurd (k q h m refl)
not-collecting (Holding q h) k = refl
not-collecting Withdrawing k = refl

-- all but GRANT and GONE
pub dropped : (table : List ℕ) (j : ℕ) (p : Phase) (m : Message) → (m ≡ Grant → ⊥) → (m ≡ Gone → ⊥) → made_of table j p m ≡ Taken.drops
dropped table j p (Request h) k l = refl
dropped table j p Release k l = refl
dropped table j p Grant k l = absurd (k refl)
dropped table j p Withdraw k l = refl
dropped table j p Gone k l = absurd (l refl)
