-- The numbers of a list of answers.
-- Assumes nothing.
use mathlib.Core.List.{List, [], ◌∷◌}
use mathlib.Core.Path.{◌≡◌, refl}
use Prim.Native.Nat.{◌*◌}
use native.Mathlib.Omega.{arith}
use lib.ListN.{length}
use Rattle.plain.specs.Answer.{Answer}
use Rattle.machine.specs.Performing.{answer_words, words_of}

pub words-length : (answers : List Answer) → length (words_of answers) ≡ answer_words * length answers
unfolding words_of
words-length [] = refl
words-length (a ∷ answers) = omega (arith, words-length answers)
