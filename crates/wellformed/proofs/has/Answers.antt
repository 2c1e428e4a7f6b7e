-- By the case that the match found.
-- Assumes nothing.
use Rattle.wellformed.specs.Checking.{has}
use Rattle.wellformed.proofs.has.Goals as goal

pub returns-in-Commands : goal.returns-in-Commands
unfolding has
returns-in-Commands c = rw c.in-Commands.is c.is_command.ensures

pub returns-in-Answers : goal.returns-in-Answers
unfolding has
returns-in-Answers c = rw c.in-Answers.is c.is_answer.ensures

pub returns-in-Rx : goal.returns-in-Rx
unfolding has
returns-in-Rx c = rw c.in-Rx.is

pub returns-in-TxDone : goal.returns-in-TxDone
unfolding has
returns-in-TxDone c = rw c.in-TxDone.is
