-- Each return is one row of the form, with the byte that each test looked at.
-- Assumes nothing.
use native.Mathlib.Omega.{arith}
use Rattle.scalar.proofs.Laws.{get-byte}
use Rattle.modulation.proofs.Rows.{empty, lora, other, short, long, fsk, word_byte}
use Rattle.modulation.proofs.config_form.Goals as goal

pub returns-then-payload-eq0 : goal.returns-then-payload-eq0
returns-then-payload-eq0 c = empty c.args.payload.now c.if-payload-eq0.true

pub returns-then-id-eq-LORA : goal.returns-then-id-eq-LORA
returns-then-id-eq-LORA c =
    let p = c.args.payload.now in lora p (get-byte 0 p (omega arith)) c.if-id-eq-LORA.true

pub returns-then-id-ne-FSK : goal.returns-then-id-ne-FSK
returns-then-id-ne-FSK c =
    let if2 = c.if-id-eq-LORA in
    let p = c.args.payload.now in other p (get-byte 0 p (omega arith)) if2.false c.if-id-ne-FSK.true

pub returns-then-payload : goal.returns-then-payload
returns-then-payload c =
    let if3 = c.if-id-ne-FSK in
    let p = c.args.payload.now in short p (get-byte 0 p (omega arith)) if3.false c.if-payload.true

pub returns-then-word-gt-SYNC_WORD_MAX : goal.returns-then-word-gt-SYNC_WORD_MAX
returns-then-word-gt-SYNC_WORD_MAX c =
    let if3 = c.if-id-ne-FSK in
    let if4 = c.if-payload in
    let p = c.args.payload.now in
    let h = if4.false in
    long p (get-byte 0 p (omega arith)) if3.false h (word_byte p h) c.if-word-gt-SYNC_WORD_MAX.true

pub returns : goal.returns
returns c =
    let if3 = c.if-id-ne-FSK in
    let if4 = c.if-payload in
    let p = c.args.payload.now in
    let h = if4.false in
    fsk p (get-byte 0 p (omega arith)) if3.false h (word_byte p h) c.if-word-gt-SYNC_WORD_MAX.false
