-- `arbiters::service::shifted` meets its contract. The places before the one in hand have what stands `by` places on.
-- Assumes nothing.
use Rattle.std.proofs.Common.{◌≡◌, ℕ, ◌+◌, ◌<◌, length, get_or}
use Rattle.records.specs.View.{no_entry}
use Rattle.arbiters.proofs.service.shifted.Given as goal

abbrev pub invariant-loop-i : goal.invariant-loop-i
invariant-loop-i l = record {
  places : length l.out ≡ 12;
  moved : (p : ℕ) → p < l.i → get_or l.out p no_entry ≡ get_or l.line (p + l.by) no_entry;
}
