-- Each answer is where the chain of tests in its definition ends.
-- Assumes nothing.
use mathlib.Core.Path.{sym, ◌∙◌}
use native.Mathlib.Omega.{arith}
use borrow.Author.Tests.{lt-ltb, le-ltb, eq-eqb, ne_eqb}
use Rattle.scalar.proofs.Laws.{get-byte}
use Rattle.frame.specs.Reading.{open_body}
use Rattle.frame.proofs.open_body.Goals as goal

pub returns-then-len-lt-OVERHEAD : goal.returns-then-len-lt-OVERHEAD
unfolding open_body
returns-then-len-lt-OVERHEAD c = simp (lt-ltb _ _ c.if-len-lt-OVERHEAD.true)

pub returns-then-len-gt-BODY_MAX : goal.returns-then-len-gt-BODY_MAX
unfolding open_body
returns-then-len-gt-BODY_MAX c = simp (le-ltb _ _ c.if-len-lt-OVERHEAD.false, lt-ltb _ _ c.if-len-gt-BODY_MAX.true)

pub returns-then-crc16-u16_at : goal.returns-then-crc16-u16_at
unfolding open_body
returns-then-crc16-u16_at c =
    let if1 = c.if-len-lt-OVERHEAD in
    let if2 = c.if-len-gt-BODY_MAX in
    let crc16 = c.crc16 in
    let u16-at = c.u16_at in
    let if3 = c.if-crc16-u16_at in
    let e = le-ltb _ _ if1.false in
    let f = le-ltb _ _ if2.false in
    let g = sym crc16.ensures ∙ if3.true ∙ u16-at.ensures in
    let k = get-byte 0 c.args.body.now (omega arith) in
    simp (e, f, eq-eqb _ _ g, k, c.u16_at-then-crc16-u16_at.ensures)

pub returns : goal.returns
unfolding open_body
returns c =
    let if1 = c.if-len-lt-OVERHEAD in
    let if2 = c.if-len-gt-BODY_MAX in
    let crc16 = c.crc16 in
    let u16-at = c.u16_at in
    let e = le-ltb _ _ if1.false in
    let f = le-ltb _ _ if2.false in
    let g = ne_eqb _ _ (λ q. c.if-crc16-u16_at.false (crc16.ensures ∙ q ∙ sym u16-at.ensures)) in
    simp (e, f, g)
