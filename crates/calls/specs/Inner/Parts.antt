-- What the parts of a call rely on, and what they promise to the call.
use Rattle.std.specs.Prelude.{Bool, true, false, not, List, [], ◌∷◌, ◌≡◌, ℕ, ◌≤◌, ◌<◌, ◌^◌, leb, length, get_or}
use Rattle.lists.specs.Broken.{Test, ◌when◌, first_broken}
use Rattle.quorum.specs.Family.{quorum}
use Rattle.quorum.specs.Limits.{most_stations}
use Rattle.units.specs.declared.Units.{Units}
use Rattle.plain.specs.Answer.{Answer, above_only, answered}
use Rattle.plain.specs.Asking.{ask_passes, asking}
use Rattle.plain.specs.InRange.{in_range}
use Rattle.plain.specs.Lanes.{up_places, down_places, no_place}
use Rattle.plain.specs.State.{State}
use Rattle.plain.specs.declared.Entry.{Entry}
use Rattle.plain.specs.declared.Message.{Message}
use Rattle.plain.specs.declared.Message.TheVariants.{Request, Release, Grant, Withdraw, Gone}
use Rattle.plain.specs.declared.Phase.{Phase}
use Rattle.plain.specs.declared.Phase.TheVariants.{Idle, Collecting, Holding, Withdrawing}
use Rattle.records.specs.View.{no_lane, no_row, view}
use Rattle.records.specs.declared.Lane.{Lane}
use Rattle.records.specs.declared.Lanes.{Lanes}
use Rattle.records.specs.declared.Record.{Record}
use Rattle.arbiters.specs.Inner.Ready.{Named}

-- what Request, Release and Withdraw test first: 19, and 8 "station or arbiter ≥ n"
abbrev pub station_tests : State → ℕ → List Test
station_tests st s = 19 when not (in_range st) ∷ 8 when leb st.n s ∷ []

-- a record in range that has the station
pub record Stands (r : Record) (s : ℕ) : Type 0 where
  pub range : in_range (view r) ≡ true
  pub few : r.n ≤ most_stations
  pub station : s < r.n

-- what asking the member m, with so many above it, answers, where only the room in its lane is left to be tested
abbrev pub ask_answer : State → ℕ → ℕ → Units → ℕ → ℕ → Answer
ask_answer st s q h m above = answered st (first_broken (no_place when ask_passes st s h m ∷ [])) (above_only above) (asking st s q h m)

-- the entries can be told to their stations, and the sender s can be answered, by lanes that are in range
pub record Sends (n s j : ℕ) (grants : List Entry) (lanes : ℕ → ℕ → List Message) : Type 0 where
  pub few : n ≤ most_stations
  pub station : s < n
  pub arbiter : j < n
  pub named : Named n (length grants) grants
  pub room : (t : ℕ) → t < n → length (lanes t j) ≤ down_places

-- whether a message is WITHDRAW, to which GONE is sent back
abbrev pub is_withdrawal : Message → Bool
is_withdrawal (Request h) = false
is_withdrawal Release = false
is_withdrawal Grant = false
is_withdrawal Withdraw = true
is_withdrawal Gone = false

-- the lane of station s and arbiter j
abbrev pub lane_in : Lanes → ℕ → ℕ → Lane
lane_in all s j = get_or (get_or all.rows s no_row).lanes j no_lane

-- it has a message, and keeps the limit of its array
pub record Takeable (all : Lanes) (s j : ℕ) : Type 0 where
  pub station : s < most_stations
  pub arbiter : j < most_stations
  pub some : 0 < (lane_in all s j).len
  pub short : (lane_in all s j).len ≤ up_places

-- m is the oldest message in the lane of station s and arbiter j
pub record Took (n s j : ℕ) (lanes : ℕ → ℕ → List Message) (m : Message) : Type 0 where
  pub station : s < n
  pub arbiter : j < n
  pub rest : List Message
  pub oldest : lanes s j ≡ m ∷ rest

-- Up or Down has passed 19, 8 and 13
pub record Takes (r : Record) (s j : ℕ) (lanes : ℕ → ℕ → List Message) (m : Message) : Type 0 where
  pub range : in_range (view r) ≡ true
  pub few : r.n ≤ most_stations
  pub took : Took r.n s j lanes m

-- what a station does after a GONE: "GONE makes it idle; any other station drops GONE"
abbrev pub after_gone : Phase → Phase
after_gone Idle = Idle
after_gone (Collecting q h m) = Collecting q h m
after_gone (Holding q h) = Holding q h
after_gone Withdrawing = Idle

-- a station that collects works with a quorum of the table, which names no station from n on
abbrev pub Wishes : ℕ → List ℕ → Phase → Type 0
Wishes n table p = (q : ℕ) (h : Units) (m : ℕ) → p ≡ Collecting q h m → (q < length table) × (quorum table q < 2 ^ n)
