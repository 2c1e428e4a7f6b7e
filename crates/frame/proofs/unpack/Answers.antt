-- Each answer is where the chain of tests in its definition ends; the body that is looked at is the decoded run.
-- Assumes nothing.
use mathlib.Core.Path.{sym, ◌∙◌}
use borrow.Author.Tests.{lt-ltb, le-ltb}
use lib.ListN.{length}
use lib.Seq.{length-take-le}
use Rattle.cobs.specs.Answers.{decode_answer}
use Rattle.cobs.proofs.Same.{decoded-same}
use Rattle.frame.specs.Reading.{open_answer, unpack_left}
use Rattle.frame.proofs.Decoding.{is-broken, is-sound, inside, body-read}
use Rattle.frame.proofs.unpack.Goals as goal

pub returns-then-run-gt-ENCODED_MAX : goal.returns-then-run-gt-ENCODED_MAX
unfolding open_answer unpack_left
returns-then-run-gt-ENCODED_MAX c =
    let e = lt-ltb _ _ c.if-run-gt-ENCODED_MAX.true in
    record { value = simp e; memory_after = simp e }

pub returns-then-room-run : goal.returns-then-room-run
unfolding open_answer unpack_left
returns-then-room-run c =
    let e = le-ltb _ _ c.if-run-gt-ENCODED_MAX.false in
    let f = lt-ltb _ _ c.if-room-run.true in
    record { value = simp (e, f); memory_after = simp (e, f) }

pub returns-in_default : goal.returns-in_default
unfolding open_answer unpack_left
returns-in_default c =
    let if1 = c.if-run-gt-ENCODED_MAX in
    let if2 = c.if-room-run in
    let decode = c.decode-decoded in
    let w = decode.ensures in
    let small = if1.false in
    let e = le-ltb _ _ small in
    let f = le-ltb _ _ if2.false in
    let a = decoded-same decode.result (decode_answer c.args.run.now (length c.args.memory.now)) w.result_value in
    let k = rw a at c.in_default.not-Done in
    let g = is-broken c.args.run.now c.args.memory.now small c.requires k in
    record { value = simp (e, f, g); memory_after = simp (e, f) w.dst_after }

pub slice_bounds-open_body-end : goal.slice_bounds-open_body-end
slice_bounds-open_body-end c =
    let if1 = c.if-run-gt-ENCODED_MAX in
    let w = c.decode-decoded in
    let small = if1.false in
    let a = sym (decoded-same _ _ w.ensures.result_value) ∙ c.in-Done.is in
    rw w.auto.dst
    (inside c.args.run.now c.args.memory.now small c.requires a)

pub slice_bounds-open_body-end-2 : goal.slice_bounds-open_body-end-2
slice_bounds-open_body-end-2 c =
    let if1 = c.if-run-gt-ENCODED_MAX in
    let w = c.decode-decoded in
    let small = if1.false in
    let a = sym (decoded-same _ _ w.ensures.result_value) ∙ c.in-Done.is in
    sym
    (length-take-le _ w.new.dst
    (rw w.auto.dst
    (inside c.args.run.now c.args.memory.now small c.requires a)))

pub returns : goal.returns
unfolding open_answer unpack_left
returns c =
    let if1 = c.if-run-gt-ENCODED_MAX in
    let if2 = c.if-room-run in
    let decode = c.decode-decoded in
    let w = decode.ensures in
    let small = if1.false in
    let a = sym (decoded-same _ _ w.result_value) ∙ c.in-Done.is in
    let e = le-ltb _ _ small in
    let f = le-ltb _ _ if2.false in
    let g = is-sound c.args.run.now c.args.memory.now small c.requires a in
    let b = body-read c.args.run.now c.args.memory.now small c.requires a in
    record { value = simp (e, f, g) (rw (w.dst_after, b) at c.open_body.ensures); memory_after = simp (e, f) w.dst_after }
