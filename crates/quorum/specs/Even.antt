-- Even tables.
use Rattle.std.specs.Prelude.{Bool, cond, ◌&&◌, List, ℕ, eqb, count_by}
use Rattle.lists.specs.Search.{all, every_below}
use Rattle.stations.specs.Member.{member}
use Rattle.stations.specs.Sets.{size}
use Rattle.quorum.specs.Family.{quorum}

-- the number of quorums that station i belongs to
abbrev pub belongs : List ℕ → ℕ → ℕ
belongs table i = count_by (λ q. member q i) table

-- "all stations belong to equally many quorums"
abbrev pub equal_shares : ℕ → List ℕ → Bool
equal_shares n table = every_below (λ i. eqb (belongs table i) (belongs table 0)) n

-- "all quorums have equal size"
abbrev pub equal_sizes : List ℕ → Bool
equal_sizes table = all (λ q. eqb (size q) (size (quorum table 0))) table

-- even in both senses
abbrev pub is_even : ℕ → List ℕ → Bool
is_even n table = equal_shares n table && equal_sizes table

-- "even is now 1 exactly when all stations belong to equally many quorums and all quorums have equal size"
unfoldable pub even : ℕ → List ℕ → ℕ
even n table = cond (is_even n table) 1 0
