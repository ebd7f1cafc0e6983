-- No count exceeds the number of sets of its size, and it is that number exactly where all of them contain a quorum.
-- Assumes nothing.
use mathlib.Core.Bool.{Bool, true, and_comm}
use mathlib.Core.List.{List}
use mathlib.Core.Path.{◌≡◌, sym, ◌∙◌}
use Prim.Native.Nat.{ℕ, ◌^◌, ◌≤◌, ◌<◌}
use native.Mathlib.Omega.{arith}
use lib.Dec.{eqb}
use borrow.Author.Tests.{eqb-true, eq-eqb}
use Rattle.lists.proofs.Counting.{many_within, many_all, many_none, many_same}
use Rattle.lists.proofs.Tests.{and_left, and_right, and-within}
use Rattle.std.proofs.lemmas.Bool.{false_from_ne_true}
use Rattle.stations.specs.Sets.{count_below}
use Rattle.stations.specs.Sizes.{choose}
use Rattle.stations.proofs.Counts.{count_le}
use Rattle.stations.proofs.SetsOfSize.{sets_many}
use Rattle.outages.specs.Outages.{works, survives, survivals}

module _ (n : ℕ) (table : List ℕ) (u : ℕ) where
  -- a set of u stations, whether it contains a quorum or not
  abbrev sized : ℕ → Bool
  sized set = eqb (count_below set n) u

  abbrev surviving : ℕ → Bool
  surviving = survives n table u

  -- "no count exceeds the number of sets of that size"
  pub count_most : survivals n table u ≤ choose n u
  unfolding survivals
  count_most = omega (arith, many_within surviving sized (λ set. and_left (sized set) (works table set)) (2 ^ n), sets_many n u)

  -- none beyond n
  pub count_beyond : n < u → survivals n table u ≡ 0
  unfolding survivals
  count_beyond h = many_none surviving (2 ^ n) (λ set l. false_from_ne_true (surviving set) (λ t. omega (arith, eqb-true (count_below set n) u (and_left (sized set) (works table set) t), count_le set n)))

  -- every set of u stations contains a quorum
  abbrev pub EverySet : Type 0
  EverySet = (set : ℕ) → set < 2 ^ n → count_below set n ≡ u → works table set ≡ true

  pub full_every : survivals n table u ≡ choose n u → EverySet
  unfolding survivals
  full_every full set h e =
      and_right (sized set) (works table set)
      (many_all surviving sized (λ s. and_left (sized s) (works table s)) (2 ^ n) (full ∙ sym (sets_many n u)) set h (eq-eqb (count_below set n) u e))

  pub every_full : EverySet → survivals n table u ≡ choose n u
  unfolding survivals
  every_full every =
      many_same surviving sized (2 ^ n)
      (λ set h. and_comm (sized set) (works table set) ∙ and-within (works table set) (sized set) (λ s. every set h (eqb-true (count_below set n) u s)))
      ∙ sets_many n u
