-- What the check answers.
use Rattle.std.specs.Prelude.{cond, List, [], ℕ, eqb, Result, Ok, Err}
use Rattle.lists.specs.Cut.{cut}
use Rattle.refusals.specs.Numbers.{number_of}
use Rattle.quorum.specs.Even.{even}
use Rattle.quorum.specs.FirstFamily.{first_family}
use Rattle.quorum.specs.Refusal.{refusal}
use Rattle.quorum.specs.Width.{width}
use Rattle.quorum.specs.declared.Accepted.{Accepted}
use Rattle.quorum.specs.declared.Rejected.{Rejected}
use Rattle.quorum.specs.declared.Rejected.TheVariants.{Refused, NoCommonMember, Nested}

-- "The check answers refusal, width, even and a family"
pub record Answer : Type 0 where
  pub refusal : ℕ
  pub width : ℕ
  pub even : ℕ
  pub family : List ℕ

-- "On 1 to 5: width 0, even 0, no family."
abbrev pub refused : ℕ → Answer
refused r = record { refusal = r; width = 0; even = 0; family = [] }

-- "On 6: width .. and the family .. On 7: width, even 0, no family. Accepted: no family."; and even is worked out "On an accepted table and on 6"
unfoldable pub answer_to : ℕ → List ℕ → ℕ → Answer
answer_to n table r =
    cond (eqb r 0) (record { refusal = 0; width = width n table; even = even n table; family = [] })
    (cond (eqb r 6) (record { refusal = 6; width = width n table; even = even n table; family = first_family n table })
    (cond (eqb r 7) (record { refusal = 7; width = width n table; even = 0; family = [] })
    (refused r)))

-- the answer to n, k, a table and a scratch of so many bytes
unfoldable pub answer : ℕ → ℕ → List ℕ → ℕ → Answer
answer n k table room = answer_to n table (refusal n k table room)

-- the number of the refusal that a table is rejected by
abbrev pub rejection_of : Rejected → ℕ
rejection_of (Refused refusal) = number_of refusal
rejection_of (NoCommonMember width even family) = 6
rejection_of (Nested width) = 7

-- what the code's answer says: the family is the first `width` places of its array
abbrev pub said : Result Accepted Rejected → Answer
said (Ok accepted) = record { refusal = 0; width = accepted.width; even = cond accepted.even 1 0; family = [] }
said (Err (Refused refusal)) = refused (number_of refusal)
said (Err (NoCommonMember width even family)) = record { refusal = 6; width = width; even = cond even 1 0; family = cut 0 width family }
said (Err (Nested width)) = record { refusal = 7; width = width; even = 0; family = [] }
