-- What reaches a station's own arbiter, as a caller from C or Rust says it.
use Rattle.std.specs.Prelude.{◌≡◌, ◌<◌, ◌≤◌, cond, ℕ, eqb, ltb, Result, MatchResult}
use Rattle.refusals.specs.declared.Refusal.{Refusal}
use Rattle.units.specs.declared.Units.{Units}
use Rattle.plain.specs.State.{Arbiter as PlainArbiter}
use Rattle.arbiters.specs.Lent.{Lending, turned_away, lending}
use Rattle.arbiters.specs.declared.Incoming.{Incoming}
use Rattle.arbiters.specs.declared.Upward.{Upward}
use Rattle.arbiters.specs.declared.Upward.TheVariants.{Request, Release, Withdraw}
use Rattle.pafluzeno.specs.declared.arrivals.Arrival.{Arrival}
use Rattle.pafluzeno.specs.declared.arrivals.MessageKind.{MessageKind}

-- the messages by number, and how many they are: a number from there on is no message
abbrev pub message_release : ℕ
message_release = 0

abbrev pub message_request : ℕ
message_request = 1

abbrev pub message_withdraw : ℕ
message_withdraw = 2

abbrev pub messages : ℕ
messages = 3

-- a REQUEST for so many units, or a RELEASE or a WITHDRAW, which have no units
unfoldable pub upward_of : ℕ → ℕ → Upward
upward_of m h = cond (eqb m message_request) (Request h) (cond (eqb m message_withdraw) Withdraw Release)

-- 15 where the number is no message, before all else, and nothing changes; otherwise as the message is answered
unfoldable pub arriving : Units → ℕ → ℕ → ℕ → PlainArbiter → Lending
arriving stock s m h a = cond (ltb m messages) (lending stock s (upward_of m h) a) (turned_away a 15)

-- the number of each message
abbrev pub number_of : MessageKind → ℕ
number_of MessageKind.Release = message_release
number_of MessageKind.Request = message_request
number_of MessageKind.Withdraw = message_withdraw

-- the message with this number, and 15 where there is none
abbrev pub Numbered : ℕ → Result MessageKind Refusal → Type 0
Numbered number r = MatchResult r (λ kind. number_of kind ≡ number) (λ e. (messages ≤ number) × (e ≡ Refusal.BadForm))

-- what a caller said, in the form of the machine, and 15 likewise
abbrev pub Understood : Arrival → Result Incoming Refusal → Type 0
Understood m r =
    MatchResult r (λ i. (m.message < messages) × (i ≡ record { stock = m.stock; station = m.station; message = upward_of m.message m.units }))
    (λ e. (messages ≤ m.message) × (e ≡ Refusal.BadForm))
