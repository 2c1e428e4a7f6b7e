-- The three tests of the definition, in its order.
-- Assumes nothing.
use mathlib.Core.Path.{sym, ◌∙◌}
use Rattle.cobs.proofs.Reading.{broken-none, broken-some}
use Rattle.cobs.proofs.is_broken.Goals as goal

pub returns-then-src-eq0 : goal.returns-then-src-eq0
returns-then-src-eq0 c = sym (broken-none _ c.if-src-eq0.true)

pub returns-then-has_zero : goal.returns-then-has_zero
returns-then-has_zero c =
    let z = sym c.has_zero.ensures ∙ c.if-has_zero.true in
    sym (broken-some _ c.if-src-eq0.false ∙ simp z)

pub returns : goal.returns
returns c =
    let if1 = c.if-src-eq0 in
    let has-zero = c.has_zero in
    let if2 = c.if-has_zero in
    let z = sym has-zero.ensures ∙ if2.false in
    let w = sym c.is_whole.ensures in
    sym (broken-some _ if1.false ∙ simp (z, w))
