-- Each return is one row of the sync word, with the byte that each test looked at.
-- Assumes nothing.
use mathlib.Core.Path.{◌∙◌}
use native.Mathlib.Omega.{arith}
use Rattle.scalar.proofs.Laws.{get-byte}
use Rattle.modulation.proofs.Rows.{word-short, word_none, word_some, word_byte}
use Rattle.modulation.proofs.sync_word.Goals as goal

pub returns-then-payload : goal.returns-then-payload
returns-then-payload c =
    let if1 = c.if-payload in
    word-short c.args.payload.now if1.true

pub returns-then-payload-ne-FSK : goal.returns-then-payload-ne-FSK
returns-then-payload-ne-FSK c =
    let if1 = c.if-payload in
    let if2 = c.if-payload-ne-FSK in
    let p = c.args.payload.now in
    let h = if1.false in
    word_none p (get-byte 0 p (omega arith)) if2.true

pub returns : goal.returns
returns c =
    let if1 = c.if-payload in
    let if2 = c.if-payload-ne-FSK in
    let p = c.args.payload.now in
    let h = if1.false in
    c.part.ensures ∙ word_some p (get-byte 0 p (omega arith)) if2.false (word_byte p h)
