-- `calls::downs::onward` meets its contract. The lowest member above j, where there is one.
-- Assumes nothing.
use mathlib.Core.Path.{sym}
use Prim.Native.Nat.{◌+◌}
use native.Mathlib.Omega.{arith}
use Rattle.stations.proofs.Above.{next-few}
use Rattle.calls.proofs.GoingOnward.{onward-holds, onward-asks, asks-within}
use Rattle.calls.proofs.downs.onward.Goals as goal

pub overflow_cast-result-in-Some : goal.overflow_cast-result-in-Some
overflow_cast-result-in-Some c = omega (arith, next-few c.args.set (c.args.j + 1) c.in-Some.next c.in-Some.ensures.next)

pub returns-in-Some-clause-taking : goal.returns-in-Some-clause-taking
returns-in-Some-clause-taking c =
    let x = c.args in
    λ table e. sym (onward-asks table x.quorum x.units x.j x.set e c.in-Some.next c.in-Some.ensures.next c.in-Some.ensures.found)

pub returns-in-Some-clause-within : goal.returns-in-Some-clause-within
returns-in-Some-clause-within c =
    let x = c.args in
    λ table e. asks-within table x.quorum x.units x.j x.set e c.in-Some.next c.in-Some.ensures.next c.in-Some.ensures.found x.n c.requires.0

pub returns-in-None-clause-taking : goal.returns-in-None-clause-taking
returns-in-None-clause-taking c =
    let x = c.args in
    λ table e. sym (onward-holds table x.quorum x.units x.j x.set e _ c.in-None.ensures.next (omega arith))
