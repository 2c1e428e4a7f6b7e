-- The name decides. A line of words has its first word as its name, and the others after it.
-- Assumes nothing.
use Rattle.std.proofs.Common.{sym, ◌∙◌}
use Rattle.buffer.proofs.Laws.{lay-none}
use Rattle.script.specs.Items.{named_bytes}
use Rattle.script.proofs.item.read_words.Goals as goal

pub returns-in_default-clause-memory_after : goal.returns-in_default-clause-memory_after
returns-in_default-clause-memory_after c = rw c.in_default.ensures (sym (lay-none 0 _))

pub returns-clause-memory_after : goal.returns-clause-memory_after
unfolding named_bytes
returns-clause-memory_after c =
    let byte = rw c.as_slice.ensures at (sym c.eq.ensures ∙ c.if-eq.false) in
    let packet = rw c.as_slice-2.ensures at (sym c.eq-2.ensures ∙ c.if-eq-2.false) in
    simp (c.in-Some.ensures, byte, packet) (sym (lay-none 0 _))
