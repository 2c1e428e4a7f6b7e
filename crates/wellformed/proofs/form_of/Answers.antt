-- By the case that the match found.
-- Assumes nothing.
use Rattle.wellformed.specs.Checking.{form_of}
use Rattle.wellformed.proofs.form_of.Goals as goal

pub returns-in-Commands : goal.returns-in-Commands
unfolding form_of
returns-in-Commands c = rw c.in-Commands.is c.command_form.ensures

pub returns-in-Answers : goal.returns-in-Answers
unfolding form_of
returns-in-Answers c = rw c.in-Answers.is c.answer_form.ensures

pub returns-in-Rx : goal.returns-in-Rx
unfolding form_of
returns-in-Rx c = rw c.in-Rx.is c.answer_form-in-Rx.ensures

pub returns-in-TxDone : goal.returns-in-TxDone
unfolding form_of
returns-in-TxDone c = rw c.in-TxDone.is c.answer_form-in-TxDone.ensures
