-- By the case that the match found.
-- Assumes nothing.
use Rattle.wellformed.specs.Checking.{fits_read}
use Rattle.wellformed.proofs.fits_read.Goals as goal

pub returns-in-Commands : goal.returns-in-Commands
unfolding fits_read
returns-in-Commands c =
    let form_of = c.form_of-form in
    rw c.in-Commands.is (rw (form_of.ensures, c.in-Commands.is) at c.exactly.ensures)

pub returns-in-Answers : goal.returns-in-Answers
unfolding fits_read
returns-in-Answers c =
    let form_of = c.form_of-form in
    rw c.in-Answers.is (rw (form_of.ensures, c.in-Answers.is) at c.at_least.ensures)

pub returns-in-Rx : goal.returns-in-Rx
unfolding fits_read
returns-in-Rx c =
    let form_of = c.form_of-form in
    rw c.in-Rx.is (rw (form_of.ensures, c.in-Rx.is) at c.at_least-in-Rx.ensures)

pub returns-in-TxDone : goal.returns-in-TxDone
unfolding fits_read
returns-in-TxDone c =
    let form_of = c.form_of-form in
    rw c.in-TxDone.is (rw (form_of.ensures, c.in-TxDone.is) at c.at_least-in-TxDone.ensures)
