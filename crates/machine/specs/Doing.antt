-- What a call is to do, by its number in a list of calls.
use Rattle.std.specs.Prelude.{◌≡◌, ◌≤◌, ℕ, Result, MatchResult}
use Rattle.refusals.specs.declared.Refusal.{Refusal}
use Rattle.machine.specs.Performing.{do_request, do_up, do_down, do_release, do_withdraw, do_words}
use Rattle.machine.specs.declared.doing.Do.{Do}

-- the number of each
abbrev pub word_of : Do → ℕ
word_of Do.Request = do_request
word_of Do.Up = do_up
word_of Do.Down = do_down
word_of Do.Release = do_release
word_of Do.Withdraw = do_withdraw

-- what has this number, and 15 where there is none
abbrev pub Numbered : ℕ → Result Do Refusal → Type 0
Numbered what r = MatchResult r (λ d. word_of d ≡ what) (λ e. (do_words ≤ what) × (e ≡ Refusal.BadForm))
