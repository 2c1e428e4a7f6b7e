-- Each answer is where the chain of tests in its definition ends.
-- Assumes nothing.
use mathlib.Core.Path.{sym, ap, ◌∙◌}
use Prim.Native.Nat.{ℕ}
use borrow.Author.Tests.{lt-ltb, le-ltb}
use Rattle.status.specs.Result.{took}
use Rattle.cobs.specs.Answers.{decode_answer, decode_left}
use Rattle.cobs.proofs.decode.Goals as goal

pub returns-then-src-gt-ENCODED_MAX : goal.returns-then-src-gt-ENCODED_MAX
unfolding decode_answer decode_left
returns-then-src-gt-ENCODED_MAX c =
    let e = lt-ltb _ _ c.if-src-gt-ENCODED_MAX.true in
    record { result_value = simp e; dst_after = simp e }

pub returns-then-dst-src : goal.returns-then-dst-src
unfolding decode_answer decode_left
returns-then-dst-src c =
    let e = le-ltb _ _ c.if-src-gt-ENCODED_MAX.false in
    let f = lt-ltb _ _ c.if-dst-src.true in
    record { result_value = simp (e, f); dst_after = simp (e, f) }

pub returns-then-is_broken : goal.returns-then-is_broken
unfolding decode_answer decode_left
returns-then-is_broken c =
    let if1 = c.if-src-gt-ENCODED_MAX in
    let if2 = c.if-dst-src in
    let is-broken = c.is_broken in
    let e = le-ltb _ _ if1.false in
    let f = le-ltb _ _ if2.false in
    let g = sym is-broken.ensures ∙ c.if-is_broken.true in
    record { result_value = simp (e, f, g); dst_after = simp (e, f, g) }

pub returns : goal.returns
unfolding decode_answer decode_left
returns c =
    let if1 = c.if-src-gt-ENCODED_MAX in
    let if2 = c.if-dst-src in
    let is-broken = c.is_broken in
    let if3 = c.if-is_broken in
    let decode-into = c.decode_into in
    let e = le-ltb _ _ if1.false in
    let f = le-ltb _ _ if2.false in
    let g = sym is-broken.ensures ∙ if3.false in
    record { result_value = simp (e, f, g) (ap (λ (n : ℕ). took n) decode-into.ensures.value); dst_after = simp (e, f, g) decode-into.ensures.dst_after }
