-- `quorum::scratch::clean` meets its contract.
-- Assumes nothing.
use Rattle.quorum.specs.Scratch.{scratch_bytes}
use Rattle.quorum.proofs.Cleaning.{zeroed-front, zeroed-short}
use Rattle.quorum.proofs.scratch.clean.Goals as goal
use mathlib.Core.Path.{sym}

pub returns-then-scratch-ge-SCRATCH_BYTES : goal.returns-then-scratch-ge-SCRATCH_BYTES
returns-then-scratch-ge-SCRATCH_BYTES c = rw (c.fill.ensures.after (λ y is. is)) (zeroed-front scratch_bytes c.args.scratch.now c.if-scratch-ge-SCRATCH_BYTES.true)

pub returns-else-scratch-ge-SCRATCH_BYTES : goal.returns-else-scratch-ge-SCRATCH_BYTES
returns-else-scratch-ge-SCRATCH_BYTES c = sym (zeroed-short scratch_bytes c.args.scratch.now c.if-scratch-ge-SCRATCH_BYTES.false)
