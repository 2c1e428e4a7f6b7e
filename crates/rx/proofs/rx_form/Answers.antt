-- Each return is one row of the form; the two bytes read are columns of one byte.
-- Assumes nothing.
use native.Mathlib.Omega.{arith}
use borrow.Author.Tests.{lt-ltb, le-ltb}
use Rattle.scalar.proofs.Laws.{get-byte}
use Rattle.rx.specs.Rx.{rx_form}
use Rattle.rx.proofs.rx_form.Goals as goal

pub returns-then-payload-lt-RX_SIZE : goal.returns-then-payload-lt-RX_SIZE
unfolding rx_form
returns-then-payload-lt-RX_SIZE c = simp (lt-ltb _ _ c.if-payload-lt-RX_SIZE.true)

pub returns-then-payload : goal.returns-then-payload
unfolding rx_form
returns-then-payload c = simp (le-ltb _ _ c.if-payload-lt-RX_SIZE.false, lt-ltb _ _ c.if-payload.true)

pub returns-then-crc_valid-gt-YES : goal.returns-then-crc_valid-gt-YES
unfolding rx_form
returns-then-crc_valid-gt-YES c =
    let if1 = c.if-payload-lt-RX_SIZE in
    let if2 = c.if-payload in
    let p = c.args.payload.now in
    rw (← get-byte 16 p (omega arith)) (simp (le-ltb _ _ if1.false, le-ltb _ _ if2.false, lt-ltb _ _ c.if-crc_valid-gt-YES.true))

pub returns-then-origin-gt-YES : goal.returns-then-origin-gt-YES
unfolding rx_form
returns-then-origin-gt-YES c =
    let if1 = c.if-payload-lt-RX_SIZE in
    let if2 = c.if-payload in
    let if3 = c.if-crc_valid-gt-YES in
    let p = c.args.payload.now in
    rw (← get-byte 16 p (omega arith), ← get-byte 19 p (omega arith))
    (simp (le-ltb _ _ if1.false, le-ltb _ _ if2.false, le-ltb _ _ if3.false, lt-ltb _ _ c.if-origin-gt-YES.true))

pub returns : goal.returns
unfolding rx_form
returns c =
    let if1 = c.if-payload-lt-RX_SIZE in
    let if2 = c.if-payload in
    let if3 = c.if-crc_valid-gt-YES in
    let p = c.args.payload.now in
    rw (← get-byte 16 p (omega arith), ← get-byte 19 p (omega arith))
    (simp (le-ltb _ _ if1.false, le-ltb _ _ if2.false, le-ltb _ _ if3.false, le-ltb _ _ c.if-origin-gt-YES.false))
