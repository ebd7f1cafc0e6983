-- What a call has passed when only the room in lanes and lines is left to be tested.
use Rattle.std.specs.Prelude.{true, List, ◌∷◌, ◌≡◌, ℕ, ◌<◌, length}
use Rattle.units.specs.Units.{request_in}
use Rattle.units.specs.declared.Units.{Units}
use Rattle.plain.specs.InRange.{in_range}
use Rattle.plain.specs.State.{State}
use Rattle.plain.specs.declared.Message.{Message}
use Rattle.plain.specs.declared.Phase.TheVariants.{Idle, Collecting, Holding}

-- Request: 19 and 8 to 11
pub record Requests (st : State) (s q : ℕ) (h : Units) : Type 0 where
  pub range : in_range st ≡ true
  pub station : s < st.n
  pub quorum : q < length st.table
  pub units : request_in st.stock h ≡ true
  pub idle : st.phase s ≡ Idle

-- Up or Down by this lane: 19, 8 and 13; m is the lane's oldest message
pub record Delivers (st : State) (s j : ℕ) (lane : List Message) (m : Message) (rest : List Message) : Type 0 where
  pub range : in_range st ≡ true
  pub station : s < st.n
  pub arbiter : j < st.n
  pub taken : lane ≡ m ∷ rest

-- Release: 19, 8 and 12; the station holds these units by this quorum
pub record Releases (st : State) (s q : ℕ) (h : Units) : Type 0 where
  pub range : in_range st ≡ true
  pub station : s < st.n
  pub holding : st.phase s ≡ Holding q h

-- Withdraw: 19, 8 and 20; the station collects these units by this quorum, and approaches m
pub record Withdraws (st : State) (s q : ℕ) (h : Units) (m : ℕ) : Type 0 where
  pub range : in_range st ≡ true
  pub station : s < st.n
  pub collecting : st.phase s ≡ Collecting q h m
