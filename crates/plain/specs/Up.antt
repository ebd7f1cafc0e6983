-- The call Up: a message of a station reaches an arbiter.
use Rattle.std.specs.Prelude.{Bool, cond, ◌||◌, List, [], ◌∷◌, ◌++◌, ℕ, eqb}
use Rattle.lists.specs.At.{at2}
use Rattle.lists.specs.Broken.{Test}
use Rattle.lists.specs.Search.{some_below}
use Rattle.plain.specs.Answer.{Answer, nothing, answered}
use Rattle.plain.specs.Arbiter.{arrived, Served, served, grants_to}
use Rattle.plain.specs.Delivery.{delivery_tests, delivery_refusal}
use Rattle.plain.specs.Lanes.{down_places, line_places, passes, sent}
use Rattle.plain.specs.State.{Arbiter, State}
use Rattle.plain.specs.Updates.{with_arbiter, with_up, with_downs}
use Rattle.plain.specs.declared.Entry.{Entry}
use Rattle.plain.specs.declared.Message.{Message}
use Rattle.plain.specs.declared.Message.TheVariants.{Request, Release, Grant, Withdraw, Gone}

-- arbiter j when the message m of station s has arrived
abbrev pub arrived_at : State → ℕ → ℕ → Message → Arbiter
arrived_at st s j m = arrived m s (st.arbiter j)

-- and when its line was served then
abbrev pub served_at : State → ℕ → ℕ → Message → Served
served_at st s j m = served st.n st.stock (arrived_at st s j m)

-- On WITHDRAW the arbiter "sends GONE down to it": the lanes down when the message m of s has arrived at j
unfoldable pub replying : Message → (ℕ → ℕ → List Message) → ℕ → ℕ → ℕ → ℕ → List Message
replying (Request h) lanes s j = lanes
replying Release lanes s j = lanes
replying Withdraw lanes s j = at2 lanes s j (sent (lanes s j) Gone)
replying Grant lanes s j = lanes
replying Gone lanes s j = lanes

-- "GRANT goes down the lane from j to that station": the lanes down, with the entries granted at j
unfoldable pub granting : (ℕ → ℕ → List Message) → ℕ → List Entry → ℕ → ℕ → List Message
granting lanes j grants t i = cond (eqb i j) (lanes t j ++ grants_to t grants) (lanes t i)

-- the lanes down when GONE and the grants have gone down
abbrev pub granted_at : State → ℕ → ℕ → Message → ℕ → ℕ → List Message
granted_at st s j m = granting (replying m st.down s j) j (served_at st s j m).grants

-- "a lane or line would pass its limit, even for a moment within the call": the line is longest when the message has joined it, a lane
-- down when GONE and all grants are in it
abbrev pub up_passes : State → ℕ → ℕ → Message → Bool
up_passes st s j m =
    passes line_places (arrived_at st s j m).line
    || some_below (λ t. passes down_places (granted_at st s j m t j)) st.n

-- 19; 8; 13; 14
abbrev pub up_tests : State → ℕ → ℕ → List Test
up_tests st s j = delivery_tests st s j (st.up s j) (up_passes st s j)

abbrev pub up_refusal : State → ℕ → ℕ → ℕ
up_refusal st s j = delivery_refusal st s j (st.up s j) (up_passes st s j)

-- "takes the oldest message": the arbiter's part, and what goes down then; the rest of the lane stays
unfoldable pub delivered_of : State → ℕ → ℕ → Message → List Message → State
delivered_of st s j m rest =
    with_downs (granted_at st s j m) (with_arbiter j (served_at st s j m).arbiter (with_up s j rest st))

unfoldable pub delivered : State → ℕ → ℕ → List Message → State
delivered st s j [] = st
delivered st s j (m ∷ rest) = delivered_of st s j m rest

-- Up(s, j)
unfoldable pub up : State → ℕ → ℕ → Answer
up st s j = answered st (up_refusal st s j) nothing (delivered st s j (st.up s j))
