-- The answers that the program's own functions give to a list of calls, each on the record that the one before returned.
use Rattle.std.specs.Prelude.{List, [], ◌∷◌}
use Rattle.units.specs.Units.{number_of}
use Rattle.plain.specs.Run.{Call}
use Rattle.records.specs.declared.Record.{Record}
use Rattle.calls.specs.declared.Answer.{Answer}
use Rattle.calls.proofs.down.Reads as down
use Rattle.calls.proofs.release.Reads as release
use Rattle.calls.proofs.request.Reads as request
use Rattle.calls.proofs.up.Reads as up
use Rattle.calls.proofs.withdraw.Reads as withdraw

-- What the checker has learnt of a call of an exported function: its contract in the source, and nothing else. Arguments by value are the
-- same at the call and at its end.
abbrev pub LearntOf : Record → Call → Answer → Type 0
LearntOf r (Call.Request s q h) a = request.Learnt tt (r, (s, (q, (number_of h, tt)))) a (r, (s, (q, (number_of h, tt))))
LearntOf r (Call.Up s j) a = up.Learnt tt (r, (s, (j, tt))) a (r, (s, (j, tt)))
LearntOf r (Call.Down s j) a = down.Learnt tt (r, (s, (j, tt))) a (r, (s, (j, tt)))
LearntOf r (Call.Release s) a = release.Learnt tt (r, (s, tt)) a (r, (s, tt))
LearntOf r (Call.Withdraw s) a = withdraw.Learnt tt (r, (s, tt)) a (r, (s, tt))

-- "each later call gets the record that the one before it returned"
pub data Trace : Record → List Call → List Answer → Type 0 where
  none : {r : Record} → Trace r [] []
  answered : {r : Record} {c : Call} {a : Answer} {calls : List Call} {answers : List Answer}
      → LearntOf r c a → Trace a.«record» calls answers → Trace r (c ∷ calls) (a ∷ answers)
