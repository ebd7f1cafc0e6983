-- A set of working stations that contains a quorum still does with more stations.
-- Assumes nothing.
use mathlib.Core.Bool.{true}
use mathlib.Core.List.{List}
use mathlib.Core.Path.{◌≡◌}
use Prim.Native.Nat.{ℕ}
use lib.ListN.{get_or}
use Rattle.lists.proofs.Searches.{any_at, any_found}
use Rattle.stations.specs.Member.{member}
use Rattle.stations.specs.Sets.{contains}
use Rattle.stations.proofs.Members.{contains-members, members-contains}
use Rattle.outages.specs.Outages.{works}

-- a set that contains a quorum still does when stations come back
pub works-more : (table : List ℕ) (s t : ℕ) → ((i : ℕ) → member s i ≡ true → member t i ≡ true) → works table s ≡ true → works table t ≡ true
unfolding works
works-more table s t more w =
    let (p, h, e) = any_found (contains s) 0 table w in
    any_at (contains t) 0 table p h (members-contains t (get_or table p 0) (λ i m. more i (contains-members s (get_or table p 0) e i m)))
