-- Each answer is where the chain of tests in its definition ends.
-- Assumes nothing.
use native.Mathlib.Omega.{arith}
use borrow.Author.Tests.{lt-ltb, le-ltb}
use Rattle.frame.specs.Writing.{build_answer, build_left}
use Rattle.frame.proofs.Laws.{length-body}
use Rattle.frame.proofs.build.Goals as goal

pub returns-then-n-gt-PAYLOAD_MAX : goal.returns-then-n-gt-PAYLOAD_MAX
unfolding build_answer build_left
returns-then-n-gt-PAYLOAD_MAX c =
    let e = lt-ltb _ _ c.if-n-gt-PAYLOAD_MAX.true in
    record { result_value = simp e; dst_after = simp e }

pub returns-then-dst-n : goal.returns-then-dst-n
unfolding build_answer build_left
returns-then-dst-n c =
    let e = le-ltb _ _ c.if-n-gt-PAYLOAD_MAX.false in
    let f = lt-ltb _ _ c.if-dst-n.true in
    record { result_value = simp (e, f); dst_after = simp (e, f) }

pub build_into-requires : goal.build_into-requires
build_into-requires c = rw length-body (omega (arith, c.if-dst-n.false))

pub returns : goal.returns
unfolding build_answer build_left
returns c =
    let if1 = c.if-n-gt-PAYLOAD_MAX in
    let if2 = c.if-dst-n in
    let build-into = c.build_into in
    let e = le-ltb _ _ if1.false in
    let f = le-ltb _ _ if2.false in
    record { result_value = simp (e, f); dst_after = simp (e, f) build-into.ensures }
