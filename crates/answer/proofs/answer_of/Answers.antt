-- Each answer is where the chain of tests in its definition ends; the form says that its bytes are there.
-- Assumes nothing.
use mathlib.Core.Path.{ap}
use native.Mathlib.Omega.{arith}
use borrow.Author.Tests.{eq-eqb, ne_eqb, leb-true}
use lib.ListN.{length}
use Rattle.scalar.proofs.Laws.{get-byte}
use Rattle.answer.specs.Answers.{answer_form, answer_of}
use Rattle.answer.specs.declared.Answer.TheVariants as A
use Rattle.answer.proofs.Steps.{rx-there, tx-done-there}
use Rattle.answer.proofs.answer_of.Goals as goal

pub ok_of-requires : goal.ok_of-requires
unfolding answer_form
ok_of-requires c = rw (eq-eqb _ _ c.if-kind-eq-OK.true) at c.requires

pub returns-then-kind-eq-OK : goal.returns-then-kind-eq-OK
unfolding answer_of
returns-then-kind-eq-OK c = rw (eq-eqb _ _ c.if-kind-eq-OK.true) c.ok_of.ensures

pub u16_at-code-requires : goal.u16_at-code-requires
unfolding answer_form
u16_at-code-requires c =
    let if1 = c.if-kind-eq-OK in
    leb-true 2 (length c.args.payload.now) (rw (ne_eqb _ _ if1.false, eq-eqb _ _ c.if-kind-eq-ERR.true) at c.requires)

pub returns-then-kind-eq-ERR : goal.returns-then-kind-eq-ERR
unfolding answer_of
returns-then-kind-eq-ERR c = rw (ne_eqb _ _ c.if-kind-eq-OK.false, eq-eqb _ _ c.if-kind-eq-ERR.true) (ap A.Err c.u16_at-code.ensures)

pub rx_of-requires : goal.rx_of-requires
unfolding answer_form
rx_of-requires c =
    let if1 = c.if-kind-eq-OK in
    let if2 = c.if-kind-eq-ERR in
    rx-there c.args.payload.now (rw (ne_eqb _ _ if1.false, ne_eqb _ _ if2.false, eq-eqb _ _ c.if-kind-eq-RX.true) at c.requires)

pub returns-then-kind-eq-RX : goal.returns-then-kind-eq-RX
unfolding answer_of
returns-then-kind-eq-RX c =
    let if1 = c.if-kind-eq-OK in
    let if2 = c.if-kind-eq-ERR in
    let if3 = c.if-kind-eq-RX in
    rw (ne_eqb _ _ if1.false, ne_eqb _ _ if2.false, eq-eqb _ _ if3.true) (ap A.Rx c.rx_of.ensures)

pub u32_at-airtime_us-requires : goal.u32_at-airtime_us-requires
unfolding answer_form
u32_at-airtime_us-requires c =
    let if1 = c.if-kind-eq-OK in
    let if2 = c.if-kind-eq-ERR in
    let h = tx-done-there c.args.payload.now (rw (ne_eqb _ _ if1.false, ne_eqb _ _ if2.false, ne_eqb _ _ c.if-kind-eq-RX.false) at c.requires) in
    omega arith

pub bounds-payload-0 : goal.bounds-payload-0
unfolding answer_form
bounds-payload-0 c =
    let if1 = c.if-kind-eq-OK in
    let if2 = c.if-kind-eq-ERR in
    let if3 = c.if-kind-eq-RX in
    let h = tx-done-there c.args.payload.now (rw (ne_eqb _ _ if1.false, ne_eqb _ _ if2.false, ne_eqb _ _ if3.false) at c.requires) in
    omega arith

pub returns : goal.returns
unfolding answer_of answer_form
returns c =
    let if1 = c.if-kind-eq-OK in
    let if2 = c.if-kind-eq-ERR in
    let if3 = c.if-kind-eq-RX in
    let u32-at = c.u32_at-airtime_us in
    let p = c.args.payload.now in
    let h = tx-done-there p (rw (ne_eqb _ _ if1.false, ne_eqb _ _ if2.false, ne_eqb _ _ if3.false) at c.requires) in
    rw (ne_eqb _ _ if1.false, ne_eqb _ _ if2.false, ne_eqb _ _ if3.false) (λ i. A.TxDone (get-byte 0 p (omega arith) i) (u32-at.ensures i))
