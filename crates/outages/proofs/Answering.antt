-- What is answered: nothing but the refusal, or the counts in their array.
-- Assumes nothing.
use mathlib.Core.List.{List}
use mathlib.Core.Path.{◌≡◌}
use Prim.Native.Nat.{ℕ, ◌+◌, ◌≤◌}
use native.Mathlib.Omega.{arith}
use Rattle.std.specs.Prelude.{Ok, Err}
use Rattle.refusals.specs.Numbers.{number_of}
use Rattle.refusals.specs.declared.Refusal.{Refusal}
use Rattle.refusals.proofs.Outcomes.{some_number}
use borrow.Author.Tests.{ne_eqb}
use Rattle.lists.specs.Counting.{each}
use Rattle.lists.proofs.Counting.{each_filled}
use Rattle.quorum.specs.Limits.{most_stations}
use Rattle.quorum.specs.Refusal.{refusal}
use Rattle.outages.specs.Answer.{answer, laid, said, sizes}
use Rattle.outages.specs.Outages.{survivals, counts}
use Rattle.outages.proofs.CountsMost.{count_beyond}
use Rattle.outages.proofs.CountsSum.{counts-length}

module _ (n k : ℕ) (table : List ℕ) (room : ℕ) where
  pub refused_is : (r : Refusal) → number_of r ≡ refusal n k table room → said n (Err r) ≡ laid (answer n k table room)
  unfolding answer laid
  refused_is r is = rw (← is, ne_eqb (number_of r) 0 (some_number r))

  pub counted_is : 0 ≡ refusal n k table room → n ≤ most_stations → (all : List ℕ) → all ≡ each (survivals n table) sizes
      → said n (Ok all) ≡ laid (answer n k table room)
  unfolding answer laid counts
  counted_is z few all e =
      rw (← z, e, each_filled (survivals n table) (n + 1) sizes (omega arith) (λ u h. count_beyond n table u (omega arith)), counts-length n table)
