-- Where a count is above 0, so is the next, up to n; and where all sets of a size contain a quorum, so do all sets of the next.
-- Assumes nothing.
use mathlib.Core.List.{List}
use mathlib.Core.Path.{◌≡◌, ap, ◌∙◌}
use Prim.Native.Nat.{ℕ, suc, ◌^◌, ◌<◌}
use native.Mathlib.Omega.{arith}
use lib.Dec.{eqb}
use borrow.Author.Tests.{eqb-true, eq-eqb}
use Rattle.lists.proofs.Counting.{many_some, many_found}
use Rattle.lists.proofs.Tests.{and_left, and_right, and_both}
use Rattle.stations.specs.Sets.{count_below}
use Rattle.stations.specs.Sizes.{choose}
use Rattle.stations.proofs.Neighbours.{one_more, one_less}
use Rattle.outages.specs.Outages.{works, survives, survivals}
use Rattle.outages.proofs.CountsMost.{full_every, every_full}
use Rattle.outages.proofs.StillWorking.{works-more}

module _ (n : ℕ) (table : List ℕ) (u : ℕ) where
  pub next-above : u < n → 0 < survivals n table u → 0 < survivals n table (suc u)
  unfolding survivals
  next-above h some =
      let (s, l, t) = many_found (survives n table u) (2 ^ n) some in
      let size : count_below s n ≡ u = eqb-true (count_below s n) u (and_left (eqb (count_below s n) u) (works table s) t) in
      let (more, one) = one_more n s l (omega arith) in
      many_some (survives n table (suc u)) (2 ^ n) more one.below
      (and_both (eq-eqb (count_below more n) (suc u) (one.size ∙ ap suc size)) (works-more table s more one.within (and_right (eqb (count_below s n) u) (works table s) t)))

  pub next_full : survivals n table u ≡ choose n u → survivals n table (suc u) ≡ choose n (suc u)
  next_full full =
      every_full n table (suc u)
      (λ s l size.
      let (fewer, below, one, within) = one_less n s (omega arith) in
      works-more table fewer s within (full_every n table u full fewer below (omega arith)))
