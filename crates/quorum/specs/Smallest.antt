-- Width in document 01's own words, over families and their common parts: what `width` is shown to be.
use Rattle.std.specs.Prelude.{List, ◌≡◌, ℕ, ◌≤◌, length}
use Rattle.quorum.specs.Family.{Family, common_part}

-- "the size of the smallest family with an empty common part, 0 if there is none"
pub data Smallest (n : ℕ) (table : List ℕ) (w : ℕ) : Type 0 where
  none : w ≡ 0 → ((f : List ℕ) → Family (length table) 0 f → common_part n table f ≡ 0 → ⊥) → Smallest n table w
  least : (f : List ℕ) → Family (length table) 0 f → length f ≡ w → common_part n table f ≡ 0
      → ((g : List ℕ) → Family (length table) 0 g → common_part n table g ≡ 0 → w ≤ length g) → Smallest n table w
