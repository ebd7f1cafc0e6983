-- Width is the size of the smallest family with an empty common part, 0 if there is none.
-- Assumes nothing.
use mathlib.Core.List.{List}
use mathlib.Core.Path.{◌≡◌}
use Prim.Native.Nat.{ℕ, ◌<◌}
use lib.ListN.{length}
use borrow.Author.Tests.{eqb-true}
use Rattle.stations.specs.Sets.{everyone}
use Rattle.quorum.specs.Family.{Family, common_part}
use Rattle.quorum.specs.Inner.Need.{Emptying}
use Rattle.quorum.specs.Smallest.{Smallest}
use Rattle.quorum.specs.Width.{width}
use Rattle.quorum.proofs.Sorted.{family-numbers}
use Rattle.quorum.proofs.Widths.{Width, width_is, emptied_first}

pub width_smallest : (n : ℕ) (table : List ℕ) → 0 < n → Smallest n table (width n table)
width_smallest n table h = go (width_is n table h)
  where
    emptying : (f : List ℕ) → Family (length table) 0 f → common_part n table f ≡ 0 → Emptying table (everyone n)
    emptying f family e = record { list = f; numbers = family-numbers family; empties = e }

    go : Width n table (width n table) → Smallest n table (width n table)
    go (Width.nothing z never) = Smallest.none z (λ f family e. never (emptying f family e))
    go (Width.least some t bound) =
        let (f, first) = emptied_first table (everyone n) (width n table) t in
        Smallest.least f first.family first.size (eqb-true _ 0 first.holds) (λ g family e. bound (emptying g family e))
