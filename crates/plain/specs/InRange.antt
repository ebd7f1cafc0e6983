-- The states that a call works on; on any other it answers 19.
use Rattle.std.specs.Prelude.{Bool, true, false, ◌&&◌, List, ℕ, eqb, ltb, length}
use Rattle.lists.specs.Search.{every_below}
use Rattle.quorum.specs.Limits.{broken_limit}
use Rattle.units.specs.Units.{request_in, grant_in, asked_with}
use Rattle.units.specs.declared.Units.{Units}
use Rattle.plain.specs.Lanes.{up_places, down_places, line_places, keeps}
use Rattle.plain.specs.State.{Arbiter, State}
use Rattle.plain.specs.declared.Entry.{Entry}
use Rattle.plain.specs.declared.Message.{Message}
use Rattle.plain.specs.declared.Message.TheVariants.{Request, Release, Grant, Withdraw, Gone}
use Rattle.plain.specs.declared.Phase.{Phase}
use Rattle.plain.specs.declared.Phase.TheVariants.{Idle, Collecting, Holding, Withdrawing}

-- "up lanes have only REQUEST and RELEASE", and "all other units 1 to k"; "A record in range may hold WITHDRAW in up lanes"
unfoldable pub goes_up : Units → Message → Bool
goes_up stock (Request h) = request_in stock h
goes_up stock Release = true
goes_up stock Withdraw = true
goes_up stock Grant = false
goes_up stock Gone = false

-- "down lanes only GRANT"; "GONE in down lanes"
unfoldable pub goes_down : Message → Bool
goes_down (Request h) = false
goes_down Release = false
goes_down Withdraw = false
goes_down Grant = true
goes_down Gone = true

-- "lanes keep their limits"
abbrev pub up_lane : Units → List Message → Bool
up_lane stock lane = keeps up_places (goes_up stock) lane

abbrev pub down_lane : List Message → Bool
down_lane lane = keeps down_places goes_down lane

-- "station and quorum numbers exist .. all other units 1 to k": a station; "withdrawing stations" have no numbers
unfoldable pub phase_in : ℕ → Units → List ℕ → Phase → Bool
phase_in n stock table Idle = true
phase_in n stock table (Collecting q h m) = ltb q (length table) && (request_in stock h && ltb m n)
phase_in n stock table (Holding q h) = ltb q (length table) && request_in stock h
phase_in n stock table Withdrawing = true

-- the same of an entry in a line
unfoldable pub entry_in : ℕ → Units → Entry → Bool
entry_in n stock e = ltb e.station n && request_in stock e.units

-- "granted units are 0 to k .. a line has at most 12 entries"
unfoldable pub arbiter_in : ℕ → Units → Arbiter → Bool
arbiter_in n stock a = every_below (λ s. grant_in stock (a.granted s)) n && keeps line_places (entry_in n stock) a.line

-- "A record is in range when n, k and table pass 1 to 4" and all that belongs to the n stations is as above
unfoldable pub in_range : State → Bool
in_range st =
    eqb (broken_limit st.n (asked_with st.stock) st.table) 0
    && (every_below (λ s. phase_in st.n st.stock st.table (st.phase s)) st.n
    && (every_below (λ j. arbiter_in st.n st.stock (st.arbiter j)) st.n
    && (every_below (λ s. every_below (λ j. up_lane st.stock (st.up s j)) st.n) st.n
    && every_below (λ s. every_below (λ j. down_lane (st.down s j)) st.n) st.n)))
