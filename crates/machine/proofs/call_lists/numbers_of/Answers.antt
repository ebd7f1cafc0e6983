-- `machine::call_lists::numbers_of` meets its contract. One case for each outcome.
-- Assumes nothing.
use Rattle.units.specs.Units.{number_of}
use Rattle.machine.specs.Performing.{words_of}
use Rattle.machine.proofs.call_lists.numbers_of.Goals as goal

pub returns-in-Ok : goal.returns-in-Ok
unfolding words_of
returns-in-Ok c = λ st. rw (c.in-Ok.is, c.number_of.ensures, c.number_of-in-Ok.ensures)

pub returns-in-Err : goal.returns-in-Err
unfolding words_of number_of
returns-in-Err c = λ st. rw (c.in-Err.is, c.number.ensures)
