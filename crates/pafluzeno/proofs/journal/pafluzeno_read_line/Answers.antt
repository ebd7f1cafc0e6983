-- `pafluzeno::journal::pafluzeno_read_line` meets its contract. The part lies behind the key and its sign; on a refusal it is empty.
-- Assumes nothing.
use mathlib.Core.Path.{ap₂}
use Prim.Native.Nat.{ℕ}
use Rattle.journal_lines.specs.Forms.{journal_form}
use Rattle.journal_lines.proofs.LinePlaces.{part_none, part_some}
use Rattle.pafluzeno.proofs.journal.pafluzeno_read_line.Goals as goal

pub returns-in-Ok : goal.returns-in-Ok
returns-in-Ok c =
    let part = part_some journal_form c.args.key.now c.args.text.now c.in-Ok.value c.in-Ok.ensures.answer in
    ap₂ (λ (p n : ℕ). record { place = p; len = n }) part.0 part.1

pub returns-in-Err : goal.returns-in-Err
returns-in-Err c =
    let part = part_none journal_form c.args.key.now c.args.text.now c.in-Err.field-0 c.in-Err.ensures.answer in
    ap₂ (λ (p n : ℕ). record { place = p; len = n }) part.0 part.1
