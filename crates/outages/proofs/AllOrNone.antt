-- Within the limits: all stations together contain a quorum, and the set without stations does not.
-- Assumes nothing.
use mathlib.Core.List.{List}
use mathlib.Core.Path.{◌≡◌, ◌∙◌}
use Prim.Native.Nat.{ℕ, ◌^◌}
use native.Mathlib.Omega.{arith}
use lib.Dec.{eqb}
use borrow.Author.Tests.{eqb-true}
use Rattle.lists.proofs.Counting.{many_none, many_some}
use Rattle.lists.proofs.Searches.{any_at, any_found}
use Rattle.lists.proofs.Tests.{and_left, and_right}
use Rattle.std.proofs.lemmas.Bool.{false_from_ne_true}
use Rattle.stations.specs.Member.{member}
use Rattle.stations.specs.Sets.{contains, count_below}
use Rattle.stations.proofs.Choosing.{choose-all}
use Rattle.stations.proofs.Counts.{count_all}
use Rattle.stations.proofs.Members.{contains-members, members-contains, member-station, some-member}
use Rattle.quorum.specs.Family.{quorum}
use Rattle.quorum.proofs.Promises.{Limits}
use Rattle.outages.specs.Outages.{works, survives, survivals}
use Rattle.outages.proofs.CountsMost.{every_full}

module _ (n k : ℕ) (table : List ℕ) (limits : Limits n k table) where
  -- the first quorum is there whole
  pub all_work : survivals n table n ≡ 1
  unfolding works
  all_work =
      let (some, below) = limits.members 0 limits.quorums.0 in
      every_full n table n
      (λ set l e. any_at (contains set) 0 table 0 limits.quorums.0
      (members-contains set (quorum table 0) (λ i m. count_all n set e i (member-station n (quorum table 0) i below m))))
      ∙ choose-all n

  -- a quorum has a member
  pub none_work : survivals n table 0 ≡ 0
  unfolding survivals works
  none_work =
      many_none (survives n table 0) (2 ^ n)
      (λ set l. false_from_ne_true (survives n table 0 set) (λ t.
      let (p, h, e) = any_found (contains set) 0 table (and_right (eqb (count_below set n) 0) (works table set) t) in
      let (i, m) = some-member (quorum table p) (limits.members p h).0 in
      let works-too = contains-members set (quorum table p) e i m in
      omega (arith, eqb-true (count_below set n) 0 (and_left (eqb (count_below set n) 0) (works table set) t), many_some (member set) n i (member-station n set i l works-too) works-too)))
