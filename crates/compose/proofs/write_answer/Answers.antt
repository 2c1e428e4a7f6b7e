-- Bytes that are too long for any message have no right form; else the payload is put together, and written as any payload.
-- Assumes nothing.
use mathlib.Core.Path.{◌≡◌, sym, ap, ◌∙◌}
use native.Mathlib.Omega.{arith}
use lib.ListN.{take, replicate}
use lib.Seq.{length-take-le}
use Rattle.frame.specs.Writing.{written_result}
use Rattle.frame.proofs.Laws.{take-laid}
use Rattle.answer.specs.Answers.{answer_bytes, answer_kind, answer_name}
use Rattle.answer.proofs.Laws.{answer-is, answer-length, answer-long}
use Rattle.wellformed.specs.Checking.{has, form_of, fits_written}
use Rattle.wellformed.specs.declared.Kinds.TheVariants as K
use Rattle.compose.proofs.Steps.{wrong-frame}
use Rattle.compose.proofs.write_answer.Goals as goal

pub returns-then-bytes-gt-PACKET_MAX : goal.returns-then-bytes-gt-PACKET_MAX
unfolding has form_of fits_written
returns-then-bytes-gt-PACKET_MAX c =
    let s = c.args in
    let answer-kind = c.answer_kind-kind in
    let if1 = c.if-bytes-gt-PACKET_MAX in
    let bs = answer_bytes s.a s.bytes.now in
    let long = answer-long s.a s.bytes.now if1.true in
    let l = wrong-frame (K.Answers (answer_name s.a)) (answer_kind s.a) s.tag bs s.dst.now (answer-is s.a) long in
    record { result_value = ap written_result (rw answer-kind.ensures at c.too_long.ensures ∙ l.0); dst_after = l.1 }

pub put_answer-n-requires : goal.put_answer-n-requires
put_answer-n-requires c =
    let s = c.args in
    omega (arith, (answer-length s.a s.bytes.now).0, c.if-bytes-gt-PACKET_MAX.false)

pub slice_bounds-memory-end : goal.slice_bounds-memory-end
slice_bounds-memory-end c =
    let s = c.args in
    let if1 = c.if-bytes-gt-PACKET_MAX in
    let put-answer = c.put_answer-n in
    rw (put-answer.auto.dst, put-answer.ensures.value) (omega (arith, (answer-length s.a s.bytes.now).0, if1.false))

pub slice_bounds-write-end : goal.slice_bounds-write-end
slice_bounds-write-end c =
    let s = c.args in
    let if1 = c.if-bytes-gt-PACKET_MAX in
    let w = c.put_answer-n in
    let n = (answer-length s.a s.bytes.now).0 in
    sym (length-take-le w.result w.new.dst (rw (w.auto.dst, w.ensures.value) (omega (arith, n, if1.false))))

pub returns : goal.returns
returns c =
    let s = c.args in
    let answer-kind = c.answer_kind-kind in
    let answer-name = c.answer_name-name in
    let w = c.put_answer-n in
    let write = c.write in
    let bs = answer_bytes s.a s.bytes.now in
    let p : take w.result w.new.dst ≡ bs = rw (w.ensures.value, w.ensures.dst_after) (take-laid bs (replicate 292 0)) in
    record {
      result_value = rw (answer-name.ensures, answer-kind.ensures, p) at write.ensures.result_value;
      dst_after = rw
          (answer-name.ensures, answer-kind.ensures, p) at write.ensures.dst_after;
    }
