-- The lanes up of a station that gives back.
-- Assumes nothing.
use mathlib.Core.Bool.{true, false}
use mathlib.Core.List.{List}
use mathlib.Core.Path.{◌≡◌}
use Prim.Native.Nat.{ℕ}
use Rattle.stations.specs.Member.{member}
use Rattle.plain.specs.Lanes.{sent}
use Rattle.plain.specs.Release.{releasing}
use Rattle.plain.specs.declared.Message.{Message}
use Rattle.plain.specs.declared.Message.TheVariants.{Release}

pub releasing-member : (q : ℕ) (lanes : ℕ → List Message) (j : ℕ) → member q j ≡ true → releasing q lanes j ≡ sent (lanes j) Release
unfolding releasing
releasing-member q lanes j e = rw e

pub releasing_other : (q : ℕ) (lanes : ℕ → List Message) (j : ℕ) → member q j ≡ false → releasing q lanes j ≡ lanes j
unfolding releasing
releasing_other q lanes j e = rw e
