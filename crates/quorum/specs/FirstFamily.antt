-- The family of refusal 6, first in dictionary order.
use Rattle.std.specs.Prelude.{List, [], ℕ, length}
use Rattle.lists.specs.Search.{first_of}
use Rattle.stations.specs.Sets.{everyone}
use Rattle.quorum.specs.Family.{empty_within, families}
use Rattle.quorum.specs.Width.{width}

-- "the family of that size whose ascending list of numbers comes first in dictionary order"
unfoldable pub first_family : ℕ → List ℕ → List ℕ
first_family n table = first_of (empty_within table (everyone n)) [] (families 0 (length table) (width n table))
