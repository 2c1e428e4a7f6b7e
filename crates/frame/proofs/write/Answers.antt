-- The working memory holds the body; its encoding is no longer than the worst case, so the zero after it has room.
-- Assumes nothing.
-- what the working memory holds where a body was laid
use mathlib.Core.Path.{◌≡◌}
use mathlib.Core.List.{List}
use Prim.Native.Nat.{ℕ, ◌+◌}
use native.Mathlib.Omega.{arith}
use borrow.Author.Tests.{lt-ltb, le-ltb}
use lib.ListN.{length, take}
use Rattle.buffer.specs.Lay.{lay}
use Rattle.cobs.specs.Answers.{body_max}
use Rattle.cobs.proofs.Laws.{length-bound}
use Rattle.frame.specs.Body.{body, overhead}
use Rattle.frame.specs.Writing.{frame_answer, frame_left}
use Rattle.frame.proofs.Laws.{take-laid, length-body}
use Rattle.frame.proofs.Building.{frame-laid, length-frame}
use Rattle.frame.proofs.write.Goals as goal

taken_back : (k t : ℕ) (p d : List ℕ) {m : List ℕ} → m ≡ lay 0 (body k t p) d → take (length p + overhead) m ≡ body k t p
taken_back k t p d e = rw (e, ← length-body k t p) (take-laid (body k t p) d)

pub returns-then-n-gt-PAYLOAD_MAX : goal.returns-then-n-gt-PAYLOAD_MAX
unfolding frame_answer frame_left
returns-then-n-gt-PAYLOAD_MAX c =
    let b = body c.args.kind c.args.tag c.args.payload.now in
    let n = length-body c.args.kind c.args.tag c.args.payload.now in
    let d = le-ltb (length b) overhead (omega arith) in
    let e = lt-ltb body_max (length b) (omega (arith, c.if-n-gt-PAYLOAD_MAX.true)) in
    record { result_value = simp (d, e); dst_after = simp (d, e) }

pub returns-then-dst-worst : goal.returns-then-dst-worst
unfolding frame_answer frame_left
returns-then-dst-worst c =
    let if1 = c.if-n-gt-PAYLOAD_MAX in
    let worst = c.worst in
    let b = body c.args.kind c.args.tag c.args.payload.now in
    let n = length-body c.args.kind c.args.tag c.args.payload.now in
    let d = le-ltb (length b) overhead (omega arith) in
    let e = le-ltb body_max (length b) (omega (arith, if1.false)) in
    let f = lt-ltb _ _ (rw (worst.ensures, ← n) at c.if-dst-worst.true) in
    record { result_value = simp (d, e, f); dst_after = simp (d, e, f) }

pub build_into-requires : goal.build_into-requires
build_into-requires c = rw length-body (omega (arith, c.if-n-gt-PAYLOAD_MAX.false))

pub bounds-dst-end : goal.bounds-dst-end
bounds-dst-end c =
    let encode-into = c.encode_into-end in
    let build-into = c.build_into in
    let if2 = c.if-dst-worst in
    let worst = c.worst in
    let b = body c.args.kind c.args.tag c.args.payload.now in
    let e = taken_back c.args.kind c.args.tag c.args.payload.now _ build-into.ensures in
    let n = length-body c.args.kind c.args.tag c.args.payload.now in
    let l = rw n at (length-bound b) in
    rw (encode-into.ensures.value, encode-into.auto.dst, e) (omega (arith, l, if2.false, worst.ensures))

pub overflow_add-result : goal.overflow_add-result
overflow_add-result c =
    let encode-into = c.encode_into-end in
    let build-into = c.build_into in
    let if1 = c.if-n-gt-PAYLOAD_MAX in
    let b = body c.args.kind c.args.tag c.args.payload.now in
    let e = taken_back c.args.kind c.args.tag c.args.payload.now _ build-into.ensures in
    let n = length-body c.args.kind c.args.tag c.args.payload.now in
    let l = rw n at (length-bound b) in
    rw (encode-into.ensures.value, e) (omega (arith, l, if1.false))

pub returns : goal.returns
unfolding frame_answer frame_left
returns c =
    let encode-into = c.encode_into-end in
    let build-into = c.build_into in
    let if2 = c.if-dst-worst in
    let worst = c.worst in
    let if1 = c.if-n-gt-PAYLOAD_MAX in
    let b = body c.args.kind c.args.tag c.args.payload.now in
    let t = taken_back c.args.kind c.args.tag c.args.payload.now _ build-into.ensures in
    let n = length-body c.args.kind c.args.tag c.args.payload.now in
    let d = le-ltb (length b) overhead (omega arith) in
    let e = le-ltb body_max (length b) (omega (arith, if1.false)) in
    let h = rw (worst.ensures, ← n) at if2.false in
    let f = le-ltb _ _ h in
    let z = length-frame b in
    let l = length-bound b in
    let w = rw t at encode-into.ensures in
    record { result_value = simp (d, e, f, w.value, z); dst_after = simp (d, e, f, w.value, w.dst_after) (frame-laid b c.args.dst.now (omega arith)) }
