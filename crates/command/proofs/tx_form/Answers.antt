-- Each answer is where the chain of tests in its definition ends.
-- Assumes nothing.
use native.Mathlib.Omega.{arith}
use borrow.Author.Tests.{lt-ltb, le-ltb}
use Rattle.scalar.proofs.Laws.{get-byte}
use Rattle.command.specs.Commands.{tx_form}
use Rattle.command.proofs.tx_form.Goals as goal

pub returns-then-payload : goal.returns-then-payload
unfolding tx_form
returns-then-payload c =
    rw (lt-ltb _ _ c.if-payload.true)

pub returns-then-payload-2 : goal.returns-then-payload-2
unfolding tx_form
returns-then-payload-2 c =
    rw (le-ltb _ _ c.if-payload.false, lt-ltb _ _ c.if-payload-2.true)

pub returns-then-payload-gt-FLAGS_MAX : goal.returns-then-payload-gt-FLAGS_MAX
unfolding tx_form
returns-then-payload-gt-FLAGS_MAX c =
    let if1 = c.if-payload in
    let if2 = c.if-payload-2 in
    let p = c.args.payload.now in
    rw (le-ltb _ _ if1.false, le-ltb _ _ if2.false, ← get-byte 0 p (omega arith), lt-ltb _ _ c.if-payload-gt-FLAGS_MAX.true)

pub returns : goal.returns
unfolding tx_form
returns c =
    let if1 = c.if-payload in
    let if2 = c.if-payload-2 in
    let p = c.args.payload.now in
    rw (le-ltb _ _ if1.false, le-ltb _ _ if2.false, ← get-byte 0 p (omega arith), le-ltb _ _ c.if-payload-gt-FLAGS_MAX.false)
