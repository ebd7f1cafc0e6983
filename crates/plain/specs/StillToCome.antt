-- What a station is told of the members still to come, by a list of calls.
use Rattle.std.specs.Prelude.{Bool, true, false, cond, ◌&&◌, ◌||◌, List, [], ◌∷◌, ◌++◌, ◌≡◌, ℕ, zero, suc, eqb}
use Rattle.units.specs.declared.Units.{Units}
use Rattle.plain.specs.Asking.{to_come}
use Rattle.plain.specs.Down.{Taken, taken_at}
use Rattle.plain.specs.Lanes.{oldest}
use Rattle.plain.specs.Run.{Call, call}
use Rattle.plain.specs.State.{State}
use Rattle.plain.specs.Withdrawn.{asks}
use Rattle.plain.specs.declared.Phase.TheVariants.{Collecting, Holding}

abbrev pub is_asking : Taken → Bool
is_asking (Taken.asks q h m) = true
is_asking (Taken.holds q h) = false
is_asking Taken.idles = false
is_asking Taken.drops = false

-- whether the call is a Down of station s that is not refused and sends REQUEST to a next member
abbrev pub asks_on : ℕ → State → Call → Bool
asks_on s st (Call.Request t q h) = false
asks_on s st (Call.Up t j) = false
asks_on s st (Call.Down t j) = eqb t s && (eqb (call st (Call.Down t j)).refusal 0 && oldest (λ m. is_asking (taken_at st t j m)) (st.down t j))
asks_on s st (Call.Release t) = false
asks_on s st (Call.Withdraw t) = false

-- whether the call sends REQUEST of station s
abbrev pub sends : ℕ → State → Call → Bool
sends s st c = asks s st c || asks_on s st c

-- the numbers that station s is told by a list of calls: one for each that sends its REQUEST
unfoldable pub told : ℕ → State → List Call → List ℕ
told s st [] = []
told s st (c ∷ calls) =
    cond (sends s st c) ((call st c).above ∷ told s (call st c).state calls) (told s (call st c).state calls)

-- m - 1, m - 2, .. 0
unfoldable pub down_from : ℕ → List ℕ
down_from zero = []
down_from (suc m) = m ∷ down_from m

-- Of m - 1, m - 2, .. 0 these numbers are the first, and where station s holds in the end they are all; where it collects, those that
-- follow begin below the number of members above the one that it approaches.
pub record CountedDown (s m : ℕ) (numbers : List ℕ) (end : State) : Type 0 where
  pub more : List ℕ
  pub all : numbers ++ more ≡ down_from m
  pub holding : (q : ℕ) (h : Units) → end.phase s ≡ Holding q h → more ≡ []
  pub collecting : (q : ℕ) (h : Units) (i : ℕ) → end.phase s ≡ Collecting q h i → more ≡ down_from (to_come end q i)
