-- What one set more makes of the counts so far, for sets of all sizes.
-- Assumes nothing.
use mathlib.Core.Bool.{true, false}
use mathlib.Core.List.{List}
use mathlib.Core.Path.{◌≡◌, refl, ap, ◌∙◌}
use Prim.Native.Nat.{ℕ, ◌+◌, ◌^◌, ◌≤◌, ◌<◌}
use native.Mathlib.Omega.{arith}
use lib.ListN.{get_or, replicate, set}
use Rattle.lists.specs.Counting.{how_many, each}
use Rattle.lists.proofs.Classes.{of_value, values_pass, values_fail}
use Rattle.lists.proofs.Counting.{each_at, many_not}
use Rattle.stations.specs.Sets.{count_below, size, places}
use Rattle.stations.proofs.Built.{count_within}
use Rattle.stations.proofs.Counts.{count_le}
use Rattle.quorum.specs.Limits.{most_stations}
use Rattle.outages.specs.Answer.{sizes}
use Rattle.outages.specs.Outages.{works, survives, survivals}

-- of the sets below `seen`, those of each size that contain a quorum
abbrev pub counts_below : ℕ → List ℕ → ℕ → List ℕ
counts_below n table seen = each (of_value (λ s. count_below s n) (works table) seen) sizes

module _ (n : ℕ) (table : List ℕ) where
  pub none_seen : replicate sizes 0 ≡ counts_below n table 0
  unfolding each how_many
  none_seen = refl

  pub all_seen : counts_below n table (2 ^ n) ≡ each (survivals n table) sizes
  unfolding survivals
  all_seen = refl

-- one set more, of so many members
module _ (n : ℕ) (table : List ℕ) (counts : List ℕ) (s : ℕ) (so_far : counts ≡ counts_below n table s) where
  pub seen_fail : works table s ≡ false → counts ≡ counts_below n table (s + 1)
  seen_fail e = so_far ∙ values_fail (λ t. count_below t n) (works table) s sizes e

  module _ (few : n ≤ most_stations) (below : s < 2 ^ n) (members : ℕ) (is : members ≡ size s) where
    size_is : members ≡ count_below s n
    size_is = is ∙ count_within n places s below (omega arith)

    pub size_few : members < sizes
    size_few = omega (arith, size_is, count_le s n)

    abbrev so_many : ℕ
    so_many = of_value (λ t. count_below t n) (works table) s (count_below s n)

    count_is : get_or counts members 0 ≡ so_many
    count_is = rw (so_far, size_is) (each_at (of_value (λ t. count_below t n) (works table) s) sizes (count_below s n) 0 (omega (arith, count_le s n)))

    -- no more than the sets so far
    pub count_few : get_or counts members 0 ≤ s
    count_few = omega (arith, count_is, many_not (survives n table (count_below s n)) s)

    pub seen_pass : works table s ≡ true → set counts members (get_or counts members 0 + 1) ≡ counts_below n table (s + 1)
    seen_pass t =
        ap (λ (x : ℕ). set counts members (x + 1)) count_is
        ∙ rw (so_far, size_is) (values_pass (λ t. count_below t n) (works table) s sizes t (omega (arith, count_le s n)))
