-- `calls::release` meets its contract. It answers what is made of a copy of the record.
-- Assumes nothing.
use Rattle.calls.specs.Answers.{answer_of}
use Rattle.calls.proofs.release.Goals as goal

pub returns-clause-answer : goal.returns-clause-answer
unfolding answer_of
returns-clause-answer c = c.give_back-outcome.ensures.answer
