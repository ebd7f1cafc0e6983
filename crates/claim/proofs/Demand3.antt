-- Demand 3, whole.
-- Assumes nothing.
use mathlib.Core.Bool.{true}
use mathlib.Core.List.{List}
use mathlib.Core.Path.{◌≡◌, sym, ap, ap₂, ◌∙◌}
use Prim.Native.Nat.{ℕ, ◌*◌}
use lib.ListN.{length, take}
use Rattle.quorum.specs.Accepted.{Accepted}
use Rattle.quorum.specs.Limits.{broken_limit}
use Rattle.quorum.specs.Width.{lacks_common}
use Rattle.quorum.proofs.Promises.{passes}
use Rattle.units.specs.Units.{asked_with}
use Rattle.units.specs.declared.Units.{Units}
use Rattle.units.proofs.Numbers.{stock-number}
use Rattle.plain.specs.Exceeding.{exceeding}
use Rattle.plain.specs.Run.{run}
use Rattle.plain.specs.State.{State, fresh}
use Rattle.plain.proofs.Bound.{bounded}
use Rattle.plain.proofs.Exceeded.{exceeded}
use Rattle.records.specs.View.{view}
use Rattle.machine.specs.Opening.{opening}
use Rattle.machine.specs.Performing.{Performance, answer_words, calls_of, words_of, performance, performed_of}
use Rattle.machine.proofs.OpeningRecord.{opened_fresh}
use Rattle.claim.specs.Claim.{EveryList, Opens, Performs, Exceeds}
use Rattle.claim.proofs.Tracing.{trace_runs}
use Rattle.claim.proofs.WrittenNumbers.{words-within, written_front}

module _ (n : ℕ) (stock : Units) (table : List ℕ) where
  every_list : Accepted n (asked_with stock) table → EveryList n stock table
  every_list a r calls answers start trace =
      let same = trace_runs trace ∙ ap (λ (st : State). run st calls) start in
      (same, rw same (bounded n stock table a calls))

  performs : Accepted n (asked_with stock) table → Performs n stock table
  unfolding performed_of performance
  performs a r calls answers written performed κs learnt start done numbers are =
      let none = sym (ap (λ (p : Performance). p.refusal) learnt.0) ∙ done in
      let same : numbers ≡ words_of (run (fresh n stock table) (calls_of calls.now)) =
      are ∙ ap (take (answer_words * length (calls_of calls.now))) learnt.1.1 ∙ written_front (view r) calls.now answers.now none
      ∙ ap (λ (st : State). words_of (run st (calls_of calls.now))) start in
      (same, rw same (words-within stock (run (fresh n stock table) (calls_of calls.now)) (bounded n stock table a (calls_of calls.now))))

  opens : Accepted n (asked_with stock) table → Opens n stock table
  opens a quorums scratch left opened κs learnt lent room =
      opened_fresh n stock table (length scratch.now) opened
      (learnt.0 ∙ ap₂ (λ (s : Units) (t : List ℕ). opening n s t (length scratch.now)) (stock-number stock) lent)
      (passes n (asked_with stock) table (length scratch.now) a room)

  -- For every table that passes 1 to 4, 6 and 7: (a), of single calls and of lent lists, and (b). For every table that passes 1 to 4 and fails
  -- 6: (c).
  pub demand_3 : (Accepted n (asked_with stock) table → EveryList n stock table × Performs n stock table × Opens n stock table)
      × (broken_limit n (asked_with stock) table ≡ 0 → lacks_common n (asked_with stock) table ≡ true → Exceeds n stock table)
  demand_3 = (λ a. (every_list a, performs a, opens a), λ kept lacks. (exceeding n stock table, exceeded n stock table kept lacks))
