-- What is answered of the outages that a table survives.
use Rattle.std.specs.Prelude.{List, [], ℕ, ◌+◌, Result, Ok, Err, length}
use Rattle.lists.specs.Broken.{done_or}
use Rattle.lists.specs.Cut.{cut}
use Rattle.quorum.specs.Limits.{most_stations}
use Rattle.quorum.specs.Refusal.{refusal}
use Rattle.outages.specs.Outages.{counts}
use Rattle.refusals.specs.Numbers.{number_of}
use Rattle.refusals.specs.declared.Refusal.{Refusal}

-- the refusal, 0 if there is none, and the counts
pub record Answer : Type 0 where
  pub refusal : ℕ
  pub counts : List ℕ

-- "An accepted table is the input. The table's own refusals, here and later, are the check's 1 to 7 in its order .. on them the answer has no counts."
unfoldable pub answer : ℕ → ℕ → List ℕ → ℕ → Answer
answer n k table room =
    done_or (record { refusal = 0; counts = counts n table }) (λ r. record { refusal = r; counts = [] }) (refusal n k table room)

-- the sizes of sets of the most stations: 0 to 12
abbrev pub sizes : ℕ
sizes = most_stations + 1

-- an answer as the code has it: the counts in the first `size` places of an array of thirteen, and 0 in all others
pub record Laid : Type 0 where
  pub refusal : ℕ
  pub size : ℕ
  pub counts : List ℕ

unfoldable pub laid : Answer → Laid
laid a = record { refusal = a.refusal; size = length a.counts; counts = cut 0 sizes a.counts }

-- what the code's answer says of n stations: n + 1 counts, or on a refusal none
abbrev pub said : ℕ → Result (List ℕ) Refusal → Laid
said n (Ok counts) = record { refusal = 0; size = n + 1; counts = counts }
said n (Err r) = record { refusal = number_of r; size = 0; counts = cut 0 sizes [] }
