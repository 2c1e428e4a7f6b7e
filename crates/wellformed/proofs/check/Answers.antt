-- Each answer is where the chain of tests in its definition ends.
-- Assumes nothing.
use mathlib.Core.Path.{sym, ◌∙◌}
use Rattle.wellformed.specs.Checking.{check}
use Rattle.wellformed.proofs.check.Goals as goal

pub returns-then-tag_wrong : goal.returns-then-tag_wrong
unfolding check
returns-then-tag_wrong c = rw (sym c.tag_wrong.ensures ∙ c.if-tag_wrong.true)

pub returns-then-fits : goal.returns-then-fits
unfolding check
returns-then-fits c =
    let tag-wrong = c.tag_wrong in
    let if1 = c.if-tag_wrong in
    let has = c.has in
    let if2 = c.if-has in
    rw (sym tag-wrong.ensures ∙ if1.false, sym has.ensures ∙ if2.true, c.if-fits.true)

pub returns-then-has : goal.returns-then-has
unfolding check
returns-then-has c =
    let tag-wrong = c.tag_wrong in
    let if1 = c.if-tag_wrong in
    let has = c.has in
    let if2 = c.if-has in
    rw (sym tag-wrong.ensures ∙ if1.false, sym has.ensures ∙ if2.true, c.if-fits.false)

pub returns : goal.returns
unfolding check
returns c =
    let tag-wrong = c.tag_wrong in
    let if1 = c.if-tag_wrong in
    let has = c.has in
    rw (sym tag-wrong.ensures ∙ if1.false, sym has.ensures ∙ c.if-has.false)
