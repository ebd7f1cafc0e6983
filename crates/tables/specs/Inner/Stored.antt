-- Sets of one size in a lent buffer, as the code stores them.
use Rattle.std.specs.Prelude.{List, map, ℕ, ◌+◌}
use Rattle.std.proofs.lemmas.List.Edits.{sets}
use Rattle.stations.specs.Sizes.{sets_of}

-- a buffer with all sets of s of the stations below n stored in it from the front on, each with the higher stations `above`
abbrev pub stored : List ℕ → ℕ → ℕ → ℕ → List ℕ
stored out above n s = sets out 0 (map (λ q. above + q) (sets_of n s))
