-- What a station makes of a GRANT, as the code says it.
use Rattle.std.specs.Prelude.{Bool, true, ◌&&◌, List, ℕ, eqb, ltb}
use Rattle.stations.specs.Sets.{members_above}
use Rattle.quorum.specs.Family.{quorum}
use Rattle.plain.specs.Down.{Taken}
use Rattle.calls.specs.declared.downs.Taking.{Taking}
use Rattle.calls.specs.declared.downs.Taking.TheVariants.{Asks, Holds, Drops}

abbrev pub taken_of : Taking → Taken
taken_of (Asks w) = Taken.asks w.quorum w.units w.member
taken_of (Holds q h) = Taken.holds q h
taken_of Drops = Taken.drops

-- a member that is asked is one of the n stations, and so many members of its quorum lie above it
abbrev pub within : ℕ → List ℕ → Taking → Bool
within n table (Asks w) = ltb w.member n && eqb w.above (members_above (quorum table w.quorum) w.member)
within n table (Holds q h) = true
within n table Drops = true
