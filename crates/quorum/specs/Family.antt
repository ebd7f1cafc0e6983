-- Families of quorums and their common part.
use Rattle.std.specs.Prelude.{Bool, List, [], ◌∷◌, ◌++◌, map, ℕ, zero, suc, ◌≤◌, ◌<◌, eqb, get_or}
use Rattle.std.specs.Int.Bits.{bit_and}
use Rattle.stations.specs.Sets.{everyone}

-- the quorum of a number
abbrev pub quorum : List ℕ → ℕ → ℕ
quorum table p = get_or table p 0

-- the stations of s that are in all quorums of the list
unfoldable pub common_within : List ℕ → ℕ → List ℕ → ℕ
common_within table s [] = s
common_within table s (p ∷ f) = common_within table (bit_and s (quorum table p)) f

-- "its common part is the set of stations in all its quorums": of no quorum, all n stations
abbrev pub common_part : ℕ → List ℕ → List ℕ → ℕ
common_part n table f = common_within table (everyone n) f

-- whether no station of s is in all quorums of the list
abbrev pub empty_within : List ℕ → ℕ → List ℕ → Bool
empty_within table s f = eqb (common_within table s f) 0

-- "A family is a set of quorum numbers": its ascending list, of numbers from a on and below m
pub data Family (m : ℕ) : ℕ → List ℕ → Type 0 where
  none : {a : ℕ} → Family m a []
  and : {a p : ℕ} {f : List ℕ} → a ≤ p → p < m → Family m (suc p) f → Family m a (p ∷ f)

-- Any quorum numbers below m, in any order and with repeats
pub data Numbers (m : ℕ) : List ℕ → Type 0 where
  none : Numbers m []
  and : {p : ℕ} {f : List ℕ} → p < m → Numbers m f → Numbers m (p ∷ f)

-- All ascending lists of w of the numbers a, a + 1, .. of which there are m, in dictionary order: those with a, then those without
unfoldable pub families : ℕ → ℕ → ℕ → List (List ℕ)
families a m zero = [] ∷ []
families a zero (suc w) = []
families a (suc m) (suc w) = map (λ f. a ∷ f) (families (suc a) m w) ++ families (suc a) m (suc w)
