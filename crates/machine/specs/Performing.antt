-- A lent list of calls, as numbers, and the numbers that answer it.
use Rattle.std.specs.Prelude.{Bool, true, false, cond, not, ◌&&◌, ◌||◌, List, [], ◌∷◌, ◌++◌, ℕ, ◌*◌, eqb, ltb, length, drop}
use Rattle.lists.specs.Broken.{Test, ◌when◌, first_broken}
use Rattle.refusals.specs.Numbers.{refusal_of}
use Rattle.units.specs.Units.{units_of, number_of}
use Rattle.plain.specs.Answer.{Answer}
use Rattle.plain.specs.Run.{Call, run, after}
use Rattle.plain.specs.State.{State}
use Rattle.records.specs.View.{view}
use Rattle.machine.specs.declared.Performed.{Performed}

-- "`do` is request, up, down or release", and "The journal has `do=withdraw` with 0 and 0": their numbers in a list of calls, and how many
-- they are
abbrev pub do_request : ℕ
do_request = 0

abbrev pub do_up : ℕ
do_up = 1

abbrev pub do_down : ℕ
do_down = 2

abbrev pub do_release : ℕ
do_release = 3

abbrev pub do_withdraw : ℕ
do_withdraw = 4

abbrev pub do_words : ℕ
do_words = 5

-- a call is four numbers, `do`, `station`, `with` and `units`
abbrev pub call_numbers : ℕ
call_numbers = 4

-- and an answer four
abbrev pub answer_words : ℕ
answer_words = 4

-- `do` is one of its words, `with` 0 in a release and in a withdraw, `units` 0 except in a request: "`with` is the quorum of a request, the
-- arbiter of up and down, 0 in a release. `units` is 0 except in a request." and "The journal has `do=withdraw` with 0 and 0."
unfoldable pub formed : ℕ → ℕ → ℕ → Bool
formed what w h = ltb what do_words && ((not (eqb what do_release || eqb what do_withdraw) || eqb w 0) && (eqb what do_request || eqb h 0))

-- four numbers a call, each call of the form
unfoldable pub well_formed : List ℕ → Bool
well_formed [] = true
well_formed (what ∷ []) = false
well_formed (what ∷ s ∷ []) = false
well_formed (what ∷ s ∷ w ∷ []) = false
well_formed (what ∷ s ∷ w ∷ h ∷ rest) = formed what w h && well_formed rest

unfoldable pub call_of : ℕ → ℕ → ℕ → ℕ → Call
call_of what s w h =
    cond (eqb what do_request) (Call.Request s w (units_of h))
    (cond (eqb what do_up) (Call.Up s w)
    (cond (eqb what do_down) (Call.Down s w)
    (cond (eqb what do_release) (Call.Release s) (Call.Withdraw s))))

unfoldable pub calls_of : List ℕ → List Call
calls_of [] = []
calls_of (what ∷ []) = []
calls_of (what ∷ s ∷ []) = []
calls_of (what ∷ s ∷ w ∷ []) = []
calls_of (what ∷ s ∷ w ∷ h ∷ rest) = call_of what s w h ∷ calls_of rest

-- the numbers of an answer: refusal, units entered, units left, members still to come
unfoldable pub words_of : List Answer → List ℕ
words_of [] = []
words_of (a ∷ answers) = a.refusal ∷ number_of a.entered ∷ number_of a.left ∷ a.above ∷ words_of answers

-- 15 where a call is "not of the form", 16 where the answers find no room ("15 before 16"); then no call is made
abbrev pub list_tests : List ℕ → ℕ → List Test
list_tests calls room = 15 when not (well_formed calls) ∷ 16 when ltb room (answer_words * length (calls_of calls)) ∷ []

unfoldable pub list_refusal : List ℕ → ℕ → ℕ
list_refusal calls room = first_broken (list_tests calls room)

-- the refusal of the list, and the record after it
pub record Performance : Type 0 where
  pub refusal : ℕ
  pub state : State

unfoldable pub performance : State → List ℕ → ℕ → Performance
performance st calls room = record { refusal = list_refusal calls room; state = cond (eqb (list_refusal calls room) 0) (after st (calls_of calls)) st }

-- the lent answers: those of the plain machine, one for one, and what lies beyond them
unfoldable pub answers_in : State → List ℕ → List ℕ → List ℕ
answers_in st calls out =
    cond (eqb (list_refusal calls (length out)) 0) (words_of (run st (calls_of calls)) ++ drop (answer_words * length (calls_of calls)) out) out

-- what the code's answer says
unfoldable pub performed_of : Performed → Performance
performed_of p = record { refusal = refusal_of p.outcome; state = view p.«record» }
