-- What one message makes of an arbiter, whatever its record holds: the arbiter's part of Up, of n stations.
use Rattle.std.specs.Prelude.{Bool, not, ◌&&◌, List, [], ◌∷◌, ℕ, leb, ltb, Result, Ok, Err}
use Rattle.lists.specs.Broken.{Test, ◌when◌, first_broken, done_or}
use Rattle.lists.specs.Cut.{cut}
use Rattle.quorum.specs.Limits.{most_stations}
use Rattle.refusals.specs.Numbers.{number_of}
use Rattle.refusals.specs.declared.Refusal.{Refusal}
use Rattle.units.specs.declared.Units.{Units}
use Rattle.plain.specs.Arbiter.{arrived, served}
use Rattle.plain.specs.Lanes.{line_places, keeps, passes}
use Rattle.plain.specs.State.{Arbiter as PlainArbiter}
use Rattle.plain.specs.declared.Entry.{Entry}
use Rattle.plain.specs.declared.Message.{Message}
use Rattle.records.specs.View.{no_entry, arbiter_of}
use Rattle.records.specs.declared.Arbiter.{Arbiter}
use Rattle.arbiters.specs.declared.answers.Delivery.{Delivery}

-- an entry of one of the n stations
abbrev pub is_of : ℕ → Entry → Bool
is_of n e = ltb e.station n

-- of the range of an arbiter, what its service needs: at most 12 stations, and a line of at most 12 entries, each of one of them
unfoldable pub servable : ℕ → PlainArbiter → Bool
servable n a = leb n most_stations && keeps line_places (is_of n) a.line

-- the refusal, the arbiter afterwards, and the entries granted, in their order
pub record Telling : Type 0 where
  pub refusal : ℕ
  pub arbiter : PlainArbiter
  pub grants : List Entry

-- a refusal changes nothing and grants nothing
abbrev pub untold : PlainArbiter → ℕ → Telling
untold a r = record { refusal = r; arbiter = a; grants = [] }

-- 14 "REQUEST with 12 entries in line": only a REQUEST makes a line longer
abbrev pub line_full : ℕ
line_full = 14

-- 19 where the line cannot be served; 8 where station s does not exist; 14
abbrev pub telling_tests : ℕ → ℕ → Message → PlainArbiter → List Test
telling_tests n s m a = 19 when not (servable n a) ∷ 8 when leb n s ∷ line_full when passes line_places (arrived m s a).line ∷ []

-- the message arrives (a GRANT or a GONE, which no station sends up, changes nothing), and the line is served
abbrev pub told_as : ℕ → Units → ℕ → Message → PlainArbiter → Telling
told_as n stock s m a = record { refusal = 0; arbiter = (served n stock (arrived m s a)).arbiter; grants = (served n stock (arrived m s a)).grants }

unfoldable pub telling : ℕ → Units → ℕ → Message → PlainArbiter → Telling
telling n stock s m a = done_or (told_as n stock s m a) (untold a) (first_broken (telling_tests n s m a))

-- what the code answers, of the arbiter that was given
unfoldable pub told_of : ℕ → Arbiter → Result Delivery Refusal → Telling
told_of n a (Ok d) = record { refusal = 0; arbiter = arbiter_of n d.arbiter; grants = cut no_entry d.grants d.line }
told_of n a (Err r) = untold (arbiter_of n a) (number_of r)
