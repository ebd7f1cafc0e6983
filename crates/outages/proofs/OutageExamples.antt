-- Tables put to the definitions: their counts, and what is answered where the check refuses.
-- Assumes nothing.
use mathlib.Core.List.{List, [], ◌∷◌}
use mathlib.Core.Path.{◌≡◌, refl}
use Prim.Native.Nat.{ℕ}
use Rattle.lists.specs.Counting.{how_many, each}
use Rattle.stations.specs.Member.{member}
use Rattle.stations.specs.Sets.{contains}
use Rattle.quorum.specs.Family.{common_within, families}
use Rattle.quorum.specs.Limits.{broken_limit}
use Rattle.quorum.specs.Nested.{nested}
use Rattle.quorum.specs.Refusal.{refusal}
use Rattle.quorum.specs.Width.{emptied, least_size, width, lacks_common}
use Rattle.outages.specs.Answer.{Answer, answer}
use Rattle.outages.specs.Outages.{works, survivals, counts}

-- "P2 gives 0, 0, 3, 1."
pub p2 : counts 3 (3 ∷ 5 ∷ 6 ∷ []) ≡ 0 ∷ 0 ∷ 3 ∷ 1 ∷ []
unfolding counts survivals works each how_many member contains
p2 = refl

-- P1; P5; one station of three; a pair, or one of it with all others
others : ◌≡◌ {A = List (List ℕ)}
    (counts 1 (1 ∷ []) ∷ counts 4 (7 ∷ 11 ∷ 13 ∷ 14 ∷ []) ∷ counts 3 (2 ∷ []) ∷ counts 4 (3 ∷ 13 ∷ 14 ∷ []) ∷ [])
    ((0 ∷ 1 ∷ []) ∷ (0 ∷ 0 ∷ 0 ∷ 4 ∷ 1 ∷ []) ∷ (0 ∷ 1 ∷ 2 ∷ 1 ∷ []) ∷ (0 ∷ 0 ∷ 1 ∷ 4 ∷ 1 ∷ []) ∷ [])
unfolding counts survivals works each how_many member contains
others = refl

-- P2, and on too little scratch; P3; P8, of which all sets with station 0 contain a quorum, and which is nested
answered : ◌≡◌ {A = List Answer}
    (answer 3 1 (3 ∷ 5 ∷ 6 ∷ []) 4096 ∷ answer 3 1 (3 ∷ 5 ∷ 6 ∷ []) 4095 ∷ answer 3 2 (3 ∷ 5 ∷ 6 ∷ []) 4096 ∷ answer 2 1 (1 ∷ 3 ∷ []) 4096 ∷ [])
    (record { refusal = 0; counts = 0 ∷ 0 ∷ 3 ∷ 1 ∷ [] } ∷ record { refusal = 5; counts = [] } ∷ record { refusal = 6; counts = [] } ∷ record { refusal = 7; counts = [] } ∷ [])
unfolding answer refusal nested width emptied least_size lacks_common common_within families broken_limit counts survivals works each how_many member contains
answered = refl
