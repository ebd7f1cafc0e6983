-- Nobody waits on silence, of the program's own records.
use Rattle.std.specs.Prelude.{true, List, [], ◌∷◌, map, ◌≡◌, ℕ, ◌≤◌}
use Rattle.lists.specs.Search.{all}
use Rattle.units.specs.declared.Units.{Units}
use Rattle.plain.specs.Run.{Call}
use Rattle.plain.specs.Silence.{only_deliveries, is_done, done_in, others_refused, most_deliveries, NobodyWaitsOnSilence}
use Rattle.plain.specs.State.{fresh}
use Rattle.records.specs.View.{view}
use Rattle.records.specs.declared.Record.{Record}
use Rattle.calls.specs.Answers.{answer_of}
use Rattle.calls.specs.declared.Answer.{Answer}
use Rattle.claim.specs.Trace.{Trace}

-- the record that the last of these answers returned, and r where there is none
unfoldable pub record_after : Record → List Answer → Record
record_after r [] = r
record_after r (a ∷ answers) = record_after a.«record» answers

-- From the record r on:
pub record ComesToRest (n : ℕ) (r : Record) : Type 0 where
  -- "at most 3 × n × n + 2 × n of them": of any calls, so many are done, where of those that are no Up and no Down all are refused,
  pub few : (calls : List Call) (answers : List Answer) → Trace r calls answers → others_refused calls (map answer_of answers) ≡ true
      → done_in (map answer_of answers) ≤ most_deliveries n
  -- no delivery of a message that exists is refused,
  pub done : (calls : List Call) (answers : List Answer) → Trace r calls answers → only_deliveries (view r) calls ≡ true
      → all is_done (map answer_of answers) ≡ true
  -- and of the state that r stands for the whole point holds.
  pub silence : NobodyWaitsOnSilence (view r)

-- "From a record reached by calls from a fresh one": whatever the calls were
abbrev pub NobodyWaits : ℕ → Units → List ℕ → Type 0
NobodyWaits n stock table = (r : Record) (calls : List Call) (answers : List Answer) → view r ≡ fresh n stock table → Trace r calls answers
    → ComesToRest n (record_after r answers)
