-- Each answer is where the chain of tests in its definition ends.
-- Assumes nothing.
use native.Mathlib.Omega.{arith}
use borrow.Author.Tests.{lt-ltb, le-ltb}
use Rattle.scalar.proofs.Laws.{get-byte}
use Rattle.answer.specs.Answers.{tx_done_form}
use Rattle.answer.proofs.tx_done_form.Goals as goal

pub returns-then-payload-lt-TX_DONE_SIZE : goal.returns-then-payload-lt-TX_DONE_SIZE
unfolding tx_done_form
returns-then-payload-lt-TX_DONE_SIZE c =
    rw (lt-ltb _ _ c.if-payload-lt-TX_DONE_SIZE.true)

pub returns-then-payload-gt-TX_DONE_MAX : goal.returns-then-payload-gt-TX_DONE_MAX
unfolding tx_done_form
returns-then-payload-gt-TX_DONE_MAX c =
    let if1 = c.if-payload-lt-TX_DONE_SIZE in
    let p = c.args.payload.now in
    rw (le-ltb _ _ if1.false, ← get-byte 0 p (omega arith), lt-ltb _ _ c.if-payload-gt-TX_DONE_MAX.true)

pub returns : goal.returns
unfolding tx_done_form
returns c =
    let if1 = c.if-payload-lt-TX_DONE_SIZE in
    let p = c.args.payload.now in
    rw (le-ltb _ _ if1.false, ← get-byte 0 p (omega arith), le-ltb _ _ c.if-payload-gt-TX_DONE_MAX.false)
