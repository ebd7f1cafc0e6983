-- Tables put to the definitions of the check: the answer on 7, which refusal comes first where several could be given, and tables that are even in
-- one sense or in both.
-- Assumes nothing.
use mathlib.Core.Bool.{Bool, true, false}
use mathlib.Core.List.{List, [], ◌∷◌}
use mathlib.Core.Path.{◌≡◌, refl}
use Prim.Native.Nat.{ℕ}
use lib.ListN.{replicate}
use Rattle.lists.specs.Counting.{how_many}
use Rattle.stations.specs.Member.{member}
use Rattle.stations.specs.Sets.{contains}
use Rattle.quorum.specs.Answer.{Answer, refused, answer_to, answer}
use Rattle.quorum.specs.Even.{equal_shares, equal_sizes, even}
use Rattle.quorum.specs.Family.{common_within, families}
use Rattle.quorum.specs.FirstFamily.{first_family}
use Rattle.quorum.specs.Limits.{broken_limit}
use Rattle.quorum.specs.Nested.{nested}
use Rattle.quorum.specs.Refusal.{refusal}
use Rattle.quorum.specs.Width.{emptied, least_size, width, lacks_common}

-- 3 5 6 7 is nested and has a width; 1 1 is nested, and would be even in both senses: even is 0 on both
on_seven : ◌≡◌ {A = List Answer}
    (answer 3 1 (3 ∷ 5 ∷ 6 ∷ 7 ∷ []) 4096 ∷ answer 1 1 (1 ∷ 1 ∷ []) 4096 ∷ [])
    (record { refusal = 7; width = 3; even = 0; family = [] } ∷ record { refusal = 7; width = 0; even = 0; family = [] } ∷ [])
unfolding answer answer_to refusal nested even how_many width emptied least_size first_family lacks_common common_within families broken_limit member contains
on_seven = refl

-- each breaks the limit of its number and a later one: 1 and 2, 2 and 3, 3 and 4, 4 and 5, 5 and 6, 6 and 7
in_order : ◌≡◌ {A = List Answer}
    (answer 13 0 (1 ∷ []) 4096
    ∷ answer 3 201 [] 4096
    ∷ answer 3 1 (replicate 65 8) 4096
    ∷ answer 3 1 (8 ∷ []) 4095
    ∷ answer 2 1 (1 ∷ 2 ∷ []) 4095
    ∷ answer 2 1 (1 ∷ 2 ∷ 3 ∷ []) 4096
    ∷ [])
    (refused 1 ∷ refused 2 ∷ refused 3 ∷ refused 4 ∷ refused 5 ∷ record { refusal = 6; width = 2; even = 0; family = 0 ∷ 1 ∷ [] } ∷ [])
unfolding answer answer_to refusal nested even how_many width emptied least_size first_family lacks_common common_within families broken_limit member contains
in_order = refl

abbrev two_sizes : List ℕ
two_sizes = 7 ∷ 28 ∷ 49 ∷ 42 ∷ 54 ∷ 45 ∷ 27 ∷ []

-- "every station is in four quorums, yet the sizes are 3 and 4"; P3, even in both senses, on 6; two pairs, of equal size, of which station 0 is in both
in_both_senses : ◌≡◌ {A = List Answer}
    (answer 6 1 two_sizes 4096
    ∷ answer 3 2 (3 ∷ 5 ∷ 6 ∷ []) 4096
    ∷ answer 3 1 (3 ∷ 5 ∷ []) 4096
    ∷ [])
    (record { refusal = 0; width = 3; even = 0; family = [] }
    ∷ record { refusal = 6; width = 3; even = 1; family = 0 ∷ 1 ∷ 2 ∷ [] }
    ∷ record { refusal = 0; width = 0; even = 0; family = [] }
    ∷ [])
unfolding answer answer_to refusal nested even how_many width emptied least_size first_family lacks_common common_within families broken_limit member contains
in_both_senses = refl

-- and of the first table each half: equal shares, two sizes
one_sense : ◌≡◌ {A = List Bool} (equal_shares 6 two_sizes ∷ equal_sizes two_sizes ∷ []) (true ∷ false ∷ [])
unfolding how_many member
one_sense = refl
