-- The counts: n + 1 of them, each at its place, and their sum.
-- Assumes nothing.
use mathlib.Core.List.{List, sum}
use mathlib.Core.Path.{◌≡◌, ◌∙◌}
use Prim.Native.Nat.{ℕ, ◌+◌, ◌^◌, ◌≤◌}
use native.Mathlib.Omega.{arith}
use lib.ListN.{length, get_or}
use Rattle.lists.proofs.Classes.{values_total, sum-each}
use Rattle.lists.proofs.Counting.{each-length, each_at}
use Rattle.stations.specs.Sets.{count_below}
use Rattle.stations.proofs.Counts.{count_le}
use Rattle.outages.specs.Outages.{works, survivals, counts, working_sets}

module _ (n : ℕ) (table : List ℕ) where
  -- "The answer is n + 1 counts."
  pub counts-length : length (counts n table) ≡ n + 1
  unfolding counts
  counts-length = each-length (survivals n table) (n + 1)

  pub counts-at : (u : ℕ) → u ≤ n → get_or (counts n table) u 0 ≡ survivals n table u
  unfolding counts
  counts-at u h = each_at (survivals n table) (n + 1) u 0 (omega arith)

  -- "Their sum is the number of station sets that contain a quorum"
  pub counts-sum : sum ◌+◌ 0 (counts n table) ≡ working_sets n table
  unfolding counts survivals working_sets
  counts-sum =
      sum-each (survivals n table) (n + 1) ∙ values_total (λ set. count_below set n) (works table) (2 ^ n) (n + 1) (λ set h. omega (arith, count_le set n))
