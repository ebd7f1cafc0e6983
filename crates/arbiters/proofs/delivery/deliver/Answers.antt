-- `arbiters::delivery::deliver` meets its contract. When the message has joined the line, it can be served.
-- Assumes nothing.
use Rattle.std.proofs.Common.{sym, ◌∙◌}
use Rattle.records.specs.View.{arbiter_of}
use Rattle.arbiters.proofs.TellingArbiter.{servable_serves, arrived-servable, has_room}
use Rattle.arbiters.proofs.delivery.deliver.Goals as goal

pub serve-requires : goal.serve-requires
serve-requires c =
    let n = c.args.n in
    let before = arbiter_of n c.args.a.now in
    let fits = arrived-servable n c.args.m c.args.s before c.if-n-s.false (sym c.is_servable.ensures ∙ c.if-not-is_servable.false) (has_room _ (c.in-Ok.ensures.refusal n)) in
    servable_serves n c.in-Ok.joined (rw (c.in-Ok.ensures.arbiter n c.if-n-s.false) fits)
