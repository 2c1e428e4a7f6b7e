-- Each answer is where the chain of tests in its definition ends.
-- Assumes nothing.
use mathlib.Core.Path.{ap}
use Prim.Native.Nat.{ℕ}
use borrow.Author.Tests.{lt-ltb, le-ltb}
use Rattle.status.specs.Result.{took}
use Rattle.cobs.specs.Answers.{encode_answer, encode_left}
use Rattle.cobs.proofs.encode.Goals as goal

pub returns-then-n-gt-BODY_MAX : goal.returns-then-n-gt-BODY_MAX
unfolding encode_answer encode_left
returns-then-n-gt-BODY_MAX c =
    let e = lt-ltb _ _ c.if-n-gt-BODY_MAX.true in
    record { result_value = simp e; dst_after = simp e }

pub returns-then-dst-worst : goal.returns-then-dst-worst
unfolding encode_answer encode_left
returns-then-dst-worst c =
    let e = le-ltb _ _ c.if-n-gt-BODY_MAX.false in
    let f = lt-ltb _ _ (rw c.worst.ensures at c.if-dst-worst.true) in
    record { result_value = simp (e, f); dst_after = simp (e, f) }

pub returns : goal.returns
unfolding encode_answer encode_left
returns c =
    let if1 = c.if-n-gt-BODY_MAX in
    let worst = c.worst in
    let if2 = c.if-dst-worst in
    let encode-into = c.encode_into in
    let e = le-ltb _ _ if1.false in
    let f = le-ltb _ _ (rw worst.ensures at if2.false) in
    record { result_value = simp (e, f) (ap (λ (n : ℕ). took n) encode-into.ensures.value); dst_after = simp (e, f) encode-into.ensures.dst_after }
