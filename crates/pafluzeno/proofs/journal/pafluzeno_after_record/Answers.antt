-- `pafluzeno::journal::pafluzeno_after_record` meets its contract. What is handed on, and the bytes before it, are all of the text.
-- Assumes nothing.
use mathlib.Core.Path.{ap, ap₂}
use Prim.Native.Nat.{ℕ}
use native.Mathlib.Omega.{arith}
use lib.ListN.{length}
use Rattle.journal_lines.specs.Forms.{journal_form}
use Rattle.journal_reading.proofs.AfterRecord.{taken_agrees}
use Rattle.pafluzeno.proofs.journal.pafluzeno_after_record.Goals as goal

pub overflow_sub-place : goal.overflow_sub-place
overflow_sub-place c = omega (arith, ap length c.after_record-rest.ensures.part, taken_agrees journal_form c.args.text.now)

pub returns : goal.returns
returns c =
    let text = c.args.text.now in
    let len = ap length c.after_record-rest.ensures.part in
    ap₂ (λ (p n : ℕ). record { place = p; len = n }) (omega (arith, len, taken_agrees journal_form text)) len
