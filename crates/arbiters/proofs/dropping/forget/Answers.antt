-- `arbiters::dropping::forget` meets its contract. What was kept before the entry in hand, and what is kept of the rest; the grant is cleared.
-- Assumes nothing.
use Rattle.std.proofs.Common.{sym, ap, ◌∙◌, take, arith}
use Rattle.lists.proofs.Cuts.{cut-take}
use Rattle.plain.specs.Arbiter.{without}
use Rattle.records.specs.View.{no_entry}
use Rattle.records.proofs.Good.{line_of, granted_of_lem}
use Rattle.arbiters.proofs.ArrivingMessage.{withdraw-drops}
use Rattle.arbiters.proofs.DroppingEntries.{drops_end}
use Rattle.arbiters.proofs.dropping.forget.Goals as goal

pub returns : goal.returns
returns c =
    let a = c.args.a in
    let l = c.loop-e in
    let line = take a.len a.line in
    let places = line_of a _ c.well_formed.0 in
    let kept = sym (l.invariant.kept ∙ drops_end c.args.s line l.rest.line l.rest.len l.e-index (omega arith)) ∙ ap (without c.args.s) (sym (cut-take no_entry a.len a.line (omega arith))) in
    λ n p. rw l.invariant.granted (withdraw-drops n c.args.s a l.rest.len l.rest.line p (omega (arith, granted_of_lem a _ c.well_formed.0)) kept)
