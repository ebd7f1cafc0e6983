-- A list of calls, made from a table that lacks a common member, after which one unit too many is in use.
use Rattle.std.specs.Prelude.{cond, List, [], ◌∷◌, ◌++◌, ℕ, zero, suc, ◌+◌, ◌-◌}
use Rattle.stations.specs.Member.{member}
use Rattle.quorum.specs.Family.{quorum}
use Rattle.quorum.specs.FirstFamily.{first_family}
use Rattle.units.specs.Units.{Amount, only, asked_with, asked_by}
use Rattle.units.specs.declared.Units.{Units}
use Rattle.plain.specs.Run.{Call}

-- Up and Down of station s at each member of q among arbiter j and those that follow it, of which there are as many as the last
-- argument says
unfoldable pub visits : ℕ → ℕ → ℕ → ℕ → List Call
visits q s j zero = []
visits q s j (suc more) = cond (member q j) (Call.Up s j ∷ Call.Down s j ∷ visits q s (suc j) more) (visits q s (suc j) more)

-- station s asks for the units h by the quorum of number p and collects them from its members, one after the other
unfoldable pub collects : ℕ → List ℕ → ℕ → ℕ → Units → List Call
collects n table s p h = Call.Request s p h ∷ visits (quorum table p) s 0 n

-- the stations from s on take a quorum each: one unit of the amount for each, and for the last what is left of r units
unfoldable pub exceeds : ℕ → List ℕ → Amount → ℕ → ℕ → List ℕ → List Call
exceeds n table a s r [] = []
exceeds n table a s r (p ∷ []) = collects n table s p (only a r)
exceeds n table a s r (p ∷ (o ∷ f)) = collects n table s p (only a 1) ++ exceeds n table a (suc s) (r - 1) (o ∷ f)

-- k + 1 units for the first family without a common member: each arbiter is outside one of its quorums, and grants
unfoldable pub exceeding : ℕ → Units → List ℕ → List Call
exceeding n stock table = exceeds n table (asked_by stock) 0 (asked_with stock + 1) (first_family n table)
