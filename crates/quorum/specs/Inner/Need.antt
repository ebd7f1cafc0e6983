-- What a byte of scratch says while the check works: how many quorums it takes to leave no station of a set in common.
use Rattle.std.specs.Prelude.{cond, not, List, [], ◌∷◌, ◌≡◌, ℕ, suc, ◌+◌, ◌-◌, ◌^◌, ◌≤◌, ◌<◌, min, eqb, ltb, length, get_or}
use Rattle.std.specs.Int.Bits.{bit_and}
use Rattle.std.specs.List.{filter}
use Rattle.stations.specs.Member.{member}
use Rattle.quorum.specs.Family.{common_within, Numbers}

-- the byte for a set that no quorums empty
abbrev pub no_need : ℕ
no_need = 255

-- quorums, in any order and with repeats, that leave no station of s in common
pub record Emptying (table : List ℕ) (s : ℕ) : Type 0 where
  pub list : List ℕ
  pub numbers : Numbers (length table) list
  pub empties : common_within table s list ≡ 0

-- v is the least number of quorums that leave no station of s in common, or none do
pub data Need (table : List ℕ) (s v : ℕ) : Type 0 where
  least : (e : Emptying table s) → length e.list ≡ v → ((g : Emptying table s) → v ≤ length g.list) → Need table s v
  never : v ≡ no_need → (Emptying table s → ⊥) → Need table s v

-- the bytes say so of every set of stations below n
abbrev pub Needs : ℕ → List ℕ → List ℕ → Type 0
Needs n table bytes = (s : ℕ) → s < 2 ^ n → Need table s (get_or bytes s 0)

-- the quorums that station i does not belong to
abbrev pub without : ℕ → List ℕ → List ℕ
without i table = filter (λ q. not (member q i)) table

-- the least byte among the sets that one more quorum leaves of s, or b
abbrev pub least_byte : List ℕ → ℕ → ℕ → List ℕ → ℕ
least_byte bytes s b [] = b
least_byte bytes s b (q ∷ table) = least_byte bytes s (min b (get_or bytes (bit_and s q) 0)) table

-- one quorum more
abbrev pub one_more : ℕ → ℕ
one_more v = cond (eqb v no_need) no_need (v + 1)

-- one quorum less: no quorum leaves a set that needs less
abbrev pub one_less : ℕ → ℕ
one_less v = cond (eqb v no_need) no_need (v - 1)

-- the size that a byte says, 0 where it says that there is none
abbrev pub size_of : ℕ → ℕ
size_of v = cond (eqb v no_need) 0 v

-- from number p on, each quorum that lowers what is still needed
abbrev pub lowering : List ℕ → ℕ → ℕ → List ℕ → List ℕ
lowering bytes s p [] = []
lowering bytes s p (q ∷ table) =
    cond (ltb (get_or bytes (bit_and s q) 0) (get_or bytes s 0))
    (p ∷ lowering bytes (bit_and s q) (suc p) table)
    (lowering bytes s (suc p) table)
