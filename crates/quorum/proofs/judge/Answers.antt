-- `quorum::judge` meets its contract. What the calls promise is put together by the laws of `Judging`.
-- Assumes nothing.
use mathlib.Core.Path.{sym, ◌∙◌}
use native.Mathlib.Omega.{arith}
use Rattle.quorum.specs.Scratch.{scratch_bytes}
use Rattle.quorum.proofs.Judging.{six, seven, accepted}
use Rattle.quorum.proofs.judge.Goals as goal

pub returns-then-lacks_common : goal.returns-then-lacks_common
returns-then-lacks_common c =
    let table = c.args.table.now in
    six table.stations table.stock table.quorums.now scratch_bytes table.kept (omega arith) c.fill.new.bytes c.fill.ensures
    c.width-width.result c.width-width.ensures (sym c.lacks_common.ensures ∙ c.if-lacks_common.true)
    c.first_family-family.result c.first_family-family.ensures c.is_even-even.result c.is_even-even.ensures

pub returns-then-is_nested : goal.returns-then-is_nested
returns-then-is_nested c =
    let table = c.args.table.now in
    seven table.stations table.stock table.quorums.now scratch_bytes table.kept (omega arith) c.fill.new.bytes c.fill.ensures
    c.width-width.result c.width-width.ensures (sym c.lacks_common.ensures ∙ c.if-lacks_common.false) (sym c.is_nested.ensures ∙ c.if-is_nested.true)

pub returns : goal.returns
returns c =
    let table = c.args.table.now in
    accepted table.stations table.stock table.quorums.now scratch_bytes table.kept (omega arith) c.fill.new.bytes c.fill.ensures
    c.width-width.result c.width-width.ensures (sym c.lacks_common.ensures ∙ c.if-lacks_common.false) (sym c.is_nested.ensures ∙ c.if-is_nested.false)
    c.is_even.result c.is_even.ensures
