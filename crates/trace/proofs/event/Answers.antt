-- A plain answer has no line.
-- Assumes nothing.
use mathlib.Core.Path.{sym, ◌∙◌}
use native.Mathlib.Omega.{arith}
use Rattle.buffer.proofs.Laws.{lay-none}
use Rattle.trace.specs.Traces.{event_text}
use Rattle.trace.proofs.event.Goals as goal

pub returns-then-is_plain : goal.returns-then-is_plain
unfolding event_text
returns-then-is_plain c =
    let p = sym c.is_plain.ensures ∙ c.if-is_plain.true in
    record { value = simp p (omega arith); dst_after = simp p (sym (lay-none _ _)) }

pub put_line-requires : goal.put_line-requires
unfolding event_text
put_line-requires c =
    let is_plain = c.is_plain in
    let if1 = c.if-is_plain in
    simp (sym is_plain.ensures ∙ if1.false) at c.requires

pub returns : goal.returns
unfolding event_text
returns c =
    let is_plain = c.is_plain in
    let if1 = c.if-is_plain in
    let put-line = c.put_line in
    let e = sym is_plain.ensures ∙ if1.false in
    record { value = simp e put-line.ensures.value; dst_after = simp e put-line.ensures.dst_after }
