-- `quorum::answer_of` meets its contract. The refusals 1 to 5 by the laws of `Judging`, the others by `judge`.
-- Assumes nothing.
use mathlib.Core.Path.{sym, ◌∙◌}
use lib.ListN.{length}
use lib.Seq.{length-take-le}
use Rattle.std.proofs.lemmas.Result.{err_from_is_err_and}
use Rattle.quorum.specs.Scratch.{scratch_bytes}
use Rattle.quorum.proofs.Cleaning.{zeroed-same}
use Rattle.quorum.proofs.Judging.{limit_broken, scratch_short, answer-enough}
use Rattle.quorum.proofs.answer_of.Goals as goal

pub returns-in_err-table-clause-answered : goal.returns-in_err-table-clause-answered
returns-in_err-table-clause-answered c =
    let (rejected, is, gave) = err_from_is_err_and c.from_residual.result c.from_residual.ensures.1 in
    rw (is, gave) (limit_broken c.args.n c.args.k c.args.quorums.now (length c.args.scratch.now) c.in_err-table.field-0.0 c.in_err-table.ensures.limits)

pub returns-then-scratch-lt-SCRATCH_BYTES-clause-answered : goal.returns-then-scratch-lt-SCRATCH_BYTES-clause-answered
returns-then-scratch-lt-SCRATCH_BYTES-clause-answered c =
    scratch_short c.args.n c.args.k c.args.quorums.now (length c.args.scratch.now) (sym c.in_ok-table.ensures.limits) c.if-scratch-lt-SCRATCH_BYTES.true

pub returns-clause-answered : goal.returns-clause-answered
returns-clause-answered c =
    let (stations, stock, quorums) = c.in_ok-table.ensures.table in
    rw (stations, stock, quorums) at c.judge_in.ensures
    ∙ answer-enough c.args.n c.args.k c.args.quorums.now (length c.args.scratch.now) (sym c.in_ok-table.ensures.limits) c.if-scratch-lt-SCRATCH_BYTES.false

pub returns-clause-cleaned : goal.returns-clause-cleaned
returns-clause-cleaned c = zeroed-same scratch_bytes c.args.scratch.now c.judge_in.new.bytes (c.judge_in.auto.bytes ∙ length-take-le scratch_bytes c.args.scratch.now c.if-scratch-lt-SCRATCH_BYTES.false) c.if-scratch-lt-SCRATCH_BYTES.false
