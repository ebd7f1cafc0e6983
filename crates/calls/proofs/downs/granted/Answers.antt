-- `calls::downs::granted` meets its contract. A GRANT from another arbiter than the one approached is dropped, and by a station that does not collect.
-- Assumes nothing.
use mathlib.Core.Path.{refl, sym, ◌∙◌}
use Rattle.calls.proofs.GoingOnward.{taken-nothing, taken_elsewhere, taken_here}
use Rattle.calls.proofs.downs.granted.Goals as goal

pub bounds-table-quorum : goal.bounds-table-quorum
bounds-table-quorum c = (c.requires.1 _ _ _ c.in-Collecting.is).0

pub returns-else-member-j-clause-taking : goal.returns-else-member-j-clause-taking
returns-else-member-j-clause-taking c =
    c.onward.ensures.taking c.args.table.now refl ∙ sym (taken_here c.args.table.now c.args.j c.in-Collecting.is c.if-member-j.false)

pub returns-then-member-j-clause-taking : goal.returns-then-member-j-clause-taking
returns-then-member-j-clause-taking c = sym (taken_elsewhere c.args.table.now c.args.j c.in-Collecting.is c.if-member-j.true)

pub returns-in_default : goal.returns-in_default
returns-in_default c = record { taking = sym (taken-nothing c.args.table.now c.args.j c.args.p c.in_default.not-Collecting); within = refl }
