-- A comment has no words; of another line a carriage return at its end is left out.
-- Assumes nothing.
use Rattle.std.proofs.Common.{sym, ◌∙◌}
use Rattle.buffer.proofs.Laws.{lay-none}
use Rattle.script.proofs.Items.{line-left}
use Rattle.script.proofs.item.read.Goals as goal

pub returns-then-is_comment : goal.returns-then-is_comment
returns-then-is_comment c =
    let comment = sym c.is_comment.ensures ∙ c.if-is_comment.true in
    record { value = simp comment; memory_after = simp comment (sym (lay-none 0 _)) }

pub returns : goal.returns
returns c =
    let line = c.args.line in
    let other = sym c.is_comment.ensures ∙ c.if-is_comment.false in
    let left = rw (← c.unwrap_or.ensures) at (line-left line c.strip_suffix.result c.strip_suffix.ensures.cases) in
    record {
      value = simp (other, left) c.read_words.ensures.value;
      memory_after = simp (other, left) c.read_words.ensures.memory_after;
    }
