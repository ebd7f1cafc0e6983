-- Width, and the lack of a common member.
use Rattle.std.specs.Prelude.{Bool, cond, ◌&&◌, List, ℕ, zero, suc, ◌+◌, leb, length}
use Rattle.lists.specs.Search.{any}
use Rattle.stations.specs.Sets.{everyone}
use Rattle.quorum.specs.Family.{empty_within, families}

-- whether some family of size w has no station of s in its common part
unfoldable pub emptied : List ℕ → ℕ → ℕ → Bool
emptied table s w = any (empty_within table s) (families 0 (length table) w)

-- the least size from w on, among as many sizes as the last argument says, that `emptied` holds of; 0 if there is none
unfoldable pub least_size : List ℕ → ℕ → ℕ → ℕ → ℕ
least_size table s w zero = 0
least_size table s w (suc more) = cond (emptied table s w) w (least_size table s (suc w) more)

-- "Width: the size of the smallest family with an empty common part, 0 if there is none": sizes 0 to the length of the table
unfoldable pub width : ℕ → List ℕ → ℕ
width n table = least_size table (everyone n) 0 (suc (length table))

-- "a table then lacks a common member when 2 ≤ width ≤ k + 1"
unfoldable pub lacks_common : ℕ → ℕ → List ℕ → Bool
lacks_common n k table = leb 2 (width n table) && leb (width n table) (k + 1)
