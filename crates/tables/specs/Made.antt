-- What the maker of a ready-made table answers, and what it leaves in the lent buffer.
use Rattle.std.specs.Prelude.{cond, List, [], ◌∷◌, ◌++◌, ℕ, Result, Ok, Err, eqb, ltb, length, drop}
use Rattle.lists.specs.Broken.{Test, ◌when◌, first_broken}
use Rattle.quorum.specs.Limits.{most_quorums}
use Rattle.refusals.specs.Numbers.{number_of}
use Rattle.refusals.specs.declared.Refusal.{Refusal}

-- "18, 16": 18 "ready-made table above 64 quorums", 16 "output buffer too short", counted in entries
abbrev pub room_tests : ℕ → ℕ → List Test
room_tests quorums room = 18 when ltb most_quorums quorums ∷ 16 when ltb room quorums ∷ []

-- the first of the two that is broken
unfoldable pub no_room : ℕ → ℕ → ℕ
no_room quorums room = first_broken (room_tests quorums room)

-- "Each answers the refusal and the number of quorums written, 0 on a refusal."
pub record Answer : Type 0 where
  pub refusal : ℕ
  pub quorums : ℕ

unfoldable pub answer : ℕ → List ℕ → Answer
answer refusal table = record { refusal = refusal; quorums = cond (eqb refusal 0) (length table) 0 }

-- "Entries beyond the table stay unchanged, on a refusal all do."
unfoldable pub written : ℕ → List ℕ → List ℕ → List ℕ
written refusal table out = cond (eqb refusal 0) (table ++ drop (length table) out) out

-- what the code's answer says: a table's quorums, or the refusal's number and 0
abbrev pub said : Result ℕ Refusal → Answer
said (Ok quorums) = record { refusal = 0; quorums = quorums }
said (Err r) = record { refusal = number_of r; quorums = 0 }
