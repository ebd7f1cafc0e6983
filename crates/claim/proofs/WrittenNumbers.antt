-- The numbers that a lent list of calls gets back are those of the plain machine's answers, and so are the units in them.
-- Assumes nothing.
use mathlib.Core.List.{List, [], ◌∷◌}
use mathlib.Core.Path.{◌≡◌, refl, sym, ap, ap₂, ◌∙◌}
use Prim.Native.Nat.{ℕ, ◌+◌, ◌*◌}
use lib.ListN.{length, take, drop}
use lib.Seq.{take_at}
use Rattle.units.specs.Units.{number_of, numbered}
use Rattle.units.specs.declared.Units.{Units}
use Rattle.units.proofs.Numbers.{amount-number}
use Rattle.plain.specs.Answer.{Answer}
use Rattle.plain.specs.Run.{run, entered, left, WithinStock}
use Rattle.plain.specs.State.{State}
use Rattle.plain.proofs.Runs.{run_length}
use Rattle.machine.specs.Performing.{answer_words, calls_of, words_of, list_refusal, answers_in}
use Rattle.machine.proofs.AnswerWords.{words-length}
use Rattle.claim.specs.Claim.{units_entered, units_left, NumbersWithin}

words-entered : (answers : List Answer) → units_entered (words_of answers) ≡ entered numbered answers
unfolding words_of units_entered entered
words-entered [] = refl
words-entered (a ∷ answers) = ap₂ ◌+◌ (sym (amount-number a.entered)) (words-entered answers)

words_left : (answers : List Answer) → units_left (words_of answers) ≡ left numbered answers
unfolding words_of units_left left
words_left [] = refl
words_left (a ∷ answers) = ap₂ ◌+◌ (sym (amount-number a.left)) (words_left answers)

pub words-within : (stock : Units) (answers : List Answer) → WithinStock stock answers → NumbersWithin (number_of stock) (words_of answers)
words-within stock answers w =
    let (d, few, is) = w numbered in
    (d, rw (amount-number stock) at few, words-entered answers ∙ is ∙ ap (λ (l : ℕ). l + d) (sym (words_left answers)))

-- of a list that is not refused the numbers of its answers are the front of what was lent
pub written_front : (st : State) (calls out : List ℕ) → list_refusal calls (length out) ≡ 0
    → take (answer_words * length (calls_of calls)) (answers_in st calls out) ≡ words_of (run st (calls_of calls))
unfolding answers_in
written_front st calls out none =
    rw none (take_at (words_of (run st (calls_of calls))) (drop (answer_words * length (calls_of calls)) out) (answer_words * length (calls_of calls))
    (words-length (run st (calls_of calls)) ∙ ap (λ (l : ℕ). answer_words * l) (run_length st (calls_of calls))))
