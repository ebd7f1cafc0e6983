-- The lane limit: how long lanes and lines get, and which numbers calls answer, in the states that calls lead to from a fresh one.
use Rattle.std.specs.Prelude.{Bool, ◌&&◌, ◌||◌, List, ℕ, ◌≤◌, ◌<◌, eqb, leb, length}
use Rattle.lists.specs.Search.{any}
use Rattle.plain.specs.Answer.{Answer}
use Rattle.plain.specs.State.{State}

-- "never have more than three messages in an up lane, two in a down lane, or n entries in a line"
pub record KeptShort (st : State) : Type 0 where
  pub ups : (s j : ℕ) → length (st.up s j) ≤ 3
  pub downs : (s j : ℕ) → length (st.down s j) ≤ 2
  pub lines : (j : ℕ) → j < st.n → length (st.arbiter j).line ≤ st.n

-- whether one of the answers has this number
abbrev pub meets : ℕ → List Answer → Bool
meets r answers = any (λ a. eqb a.refusal r) answers

-- a call's own numbers: done, 8 to 13, or 20; neither 14 nor 19 is one of them
abbrev pub own_number : ℕ → Bool
own_number r = eqb r 0 || (leb 8 r && leb r 13 || eqb r 20)
