-- The word starts past the blanks, and ends at the next one.
-- Assumes nothing.
use mathlib.Core.Path.{sym, ◌∙◌}
use Rattle.script.proofs.Words.{none, some, span_of-is}
use Rattle.script.proofs.word.split_first.Goals as goal

pub returns-in_err-start : goal.returns-in_err-start
returns-in_err-start c =
    rw c.from_residual.ensures (none c.args.s.now (sym c.start.ensures ∙ c.in_err-start.was))

pub split_at-requires : goal.split_at-requires
split_at-requires c =
    (some c.args.s.now c.in_ok-start.field-0 (sym c.start.ensures ∙ c.in_ok-start.was)).0

pub split_at-requires-2 : goal.split_at-requires-2
split_at-requires-2 c =
    rw (c.unwrap_or.ensures, c.end.ensures) (span_of-is c.split_at.result.1.now).0

pub returns : goal.returns
returns c =
    rw (c.split_at-2.ensures.front, c.split_at-2.ensures.back, c.unwrap_or.ensures, c.end.ensures, c.split_at.ensures.back)
    (some c.args.s.now c.in_ok-start.field-0 (sym c.start.ensures ∙ c.in_ok-start.was)).1
