-- The arbiter call of the field: a station lends its own arbiter record to one call for each message.
use Rattle.std.specs.Prelude.{Bool, false, not, List, [], ◌∷◌, ℕ, eqb, leb, Result, Ok, Err}
use Rattle.lists.specs.Broken.{Test, ◌when◌, first_broken, done_or}
use Rattle.lists.specs.Search.{any}
use Rattle.stations.specs.Sets.{set_of}
use Rattle.quorum.specs.Limits.{most_stations, most_units, up_to}
use Rattle.refusals.specs.Numbers.{number_of}
use Rattle.refusals.specs.declared.Refusal.{Refusal}
use Rattle.units.specs.Units.{request_in, asked_with, units_of}
use Rattle.units.specs.declared.Units.{Units}
use Rattle.plain.specs.Arbiter.{arrived, served}
use Rattle.plain.specs.InRange.{arbiter_in}
use Rattle.plain.specs.Lanes.{line_places, passes}
use Rattle.plain.specs.State.{Arbiter as PlainArbiter}
use Rattle.plain.specs.declared.Entry.{Entry}
use Rattle.plain.specs.declared.Message.{Message}
use Rattle.plain.specs.declared.Message.TheVariants.{Request, Release, Withdraw}
use Rattle.records.specs.View.{arbiter_of}
use Rattle.records.specs.declared.Arbiter.{Arbiter}
use Rattle.arbiters.specs.Telling.{line_full}
use Rattle.arbiters.specs.declared.answers.Settled.{Settled}
use Rattle.arbiters.specs.declared.Upward.{Upward}
use Rattle.arbiters.specs.declared.Upward.TheVariants.{Request as UpRequest, Release as UpRelease, Withdraw as UpWithdraw}

-- the message that a station sends up; "The lent arbiter call takes WITHDRAW too"
abbrev pub sent_up : Upward → Message
sent_up (UpRequest h) = Request (units_of h)
sent_up UpRelease = Release
sent_up UpWithdraw = Withdraw

-- "10 (REQUEST only)": units outside 1..k
abbrev pub bad_units : Units → Upward → Bool
bad_units stock (UpRequest h) = not (request_in stock (units_of h))
bad_units stock UpRelease = false
bad_units stock UpWithdraw = false

-- whether station t is among those granted
abbrev pub is_granted : List Entry → ℕ → Bool
is_granted grants t = any (λ (e : Entry). eqb e.station t) grants

-- "answers with the set of stations granted"
abbrev pub granted_set : List Entry → ℕ
granted_set grants = set_of (is_granted grants) most_stations

-- the refusal, the set of stations granted, and the lent record afterwards
pub record Lending : Type 0 where
  pub refusal : ℕ
  pub granted : ℕ
  pub arbiter : PlainArbiter

-- "each answers the empty set and changes nothing"
abbrev pub turned_away : PlainArbiter → ℕ → Lending
turned_away a r = record { refusal = r; granted = 0; arbiter = a }

-- "That call applies the arbiter's part of Up", on n = 12; on WITHDRAW too it "still answers the stations granted; GONE always goes to the
-- sender"
abbrev pub lent_as : Units → ℕ → Message → PlainArbiter → Lending
lent_as stock s m a =
    record {
      refusal = 0;
      granted = granted_set (served most_stations stock (arrived m s a)).grants;
      arbiter = (served most_stations stock (arrived m s a)).arbiter;
    }

-- refused by r, or else (r = 0) applied
unfoldable pub lent_by : ℕ → Units → ℕ → Message → PlainArbiter → Lending
lent_by r stock s m a = done_or (lent_as stock s m a) (turned_away a) r

-- "Its refusals, in order, are 2, 19 (the same limits with n = 12), 8 (station above 11), 10 (REQUEST only), 14"
abbrev pub lent_tests : Units → ℕ → Upward → PlainArbiter → List Test
lent_tests stock s m a =
    2 when not (up_to most_units (asked_with stock))
    ∷ 19 when not (arbiter_in most_stations stock a)
    ∷ 8 when leb most_stations s
    ∷ 10 when bad_units stock m
    ∷ line_full when passes line_places (arrived (sent_up m) s a).line
    ∷ []

unfoldable pub lending : Units → ℕ → Upward → PlainArbiter → Lending
lending stock s m a = lent_by (first_broken (lent_tests stock s m a)) stock s (sent_up m) a

-- what the code answers, of the record that was given
unfoldable pub lent_of : Arbiter → Result Settled Refusal → Lending
lent_of a (Ok d) = record { refusal = 0; granted = d.granted; arbiter = arbiter_of most_stations d.arbiter }
lent_of a (Err r) = turned_away (arbiter_of most_stations a) (number_of r)
