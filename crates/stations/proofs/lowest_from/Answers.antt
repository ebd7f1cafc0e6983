-- `stations::lowest_from` meets its contract: the ones of the shifted mask are the members from there on, and its zeros at the end lead to the lowest.
-- Assumes nothing.
use mathlib.Core.Path.{refl}
use native.Mathlib.Omega.{arith}
use borrow.Author.Rules.{rules}
use Rattle.stations.proofs.Above.{next_end, next_none, next_some, next-place, some-size}
use Rattle.stations.proofs.lowest_from.Goals as goal

pub returns-then-from-ge-PLACES-clause-next : goal.returns-then-from-ge-PLACES-clause-next
returns-then-from-ge-PLACES-clause-next c = next_end c.args.q c.args.from c.if-from-ge-PLACES.true

pub returns-then-rest-eq0-clause-next : goal.returns-then-rest-eq0-clause-next
returns-then-rest-eq0-clause-next c = next_none c.args.q c.args.from _ (search rules) c.if-from-ge-PLACES.false refl c.if-rest-eq0.true

pub overflow_sub-result : goal.overflow_sub-result
overflow_sub-result c =
    omega (arith, c.count.ensures, some-size c.args.q c.args.from _ (search rules) c.if-from-ge-PLACES.false refl (omega arith))

pub returns-clause-next : goal.returns-clause-next
returns-clause-next c = rw c.count.ensures (next_some c.args.q c.args.from _ (search rules) c.if-from-ge-PLACES.false refl (omega arith))

pub returns-clause-found : goal.returns-clause-found
returns-clause-found c = next-place c.args.q c.args.from _ (search rules) c.if-from-ge-PLACES.false refl (omega arith)
