-- Each answer is where the chain of tests in its definition ends.
-- Assumes nothing.
use borrow.Author.Tests.{eq-eqb, ne_eqb}
use Rattle.answer.specs.Answers.{answer_form}
use Rattle.answer.proofs.answer_form.Goals as goal

pub returns-then-kind-eq-OK : goal.returns-then-kind-eq-OK
unfolding answer_form
returns-then-kind-eq-OK c = rw (eq-eqb _ _ c.if-kind-eq-OK.true) c.ok_form.ensures

pub returns-then-kind-eq-ERR : goal.returns-then-kind-eq-ERR
unfolding answer_form
returns-then-kind-eq-ERR c = rw (ne_eqb _ _ c.if-kind-eq-OK.false, eq-eqb _ _ c.if-kind-eq-ERR.true)

pub returns-then-kind-eq-RX : goal.returns-then-kind-eq-RX
unfolding answer_form
returns-then-kind-eq-RX c =
    let if1 = c.if-kind-eq-OK in
    let if2 = c.if-kind-eq-ERR in
    let if3 = c.if-kind-eq-RX in
    rw (ne_eqb _ _ if1.false, ne_eqb _ _ if2.false, eq-eqb _ _ if3.true) c.rx_form.ensures

pub returns : goal.returns
unfolding answer_form
returns c =
    let if1 = c.if-kind-eq-OK in
    let if2 = c.if-kind-eq-ERR in
    let if3 = c.if-kind-eq-RX in
    rw (ne_eqb _ _ if1.false, ne_eqb _ _ if2.false, ne_eqb _ _ if3.false) c.tx_done_form.ensures
