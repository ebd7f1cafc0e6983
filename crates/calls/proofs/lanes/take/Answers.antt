-- `calls::lanes::take` meets its contract. All messages but the first move one place on.
-- Assumes nothing.
use mathlib.Core.List.{List}
use mathlib.Core.Path.{ap, sym}
use native.Mathlib.Omega.{arith}
use lib.ListN.{drop}
use Rattle.plain.specs.declared.Message.{Message}
use Rattle.records.proofs.Viewing.{lane-take}
use Rattle.calls.proofs.lanes.take.Goals as goal

pub returns : goal.returns
returns c = sym (ap (λ (l : List Message). drop 1 l) (lane-take _ _ (omega arith) c.requires.0 c.requires.1))
