-- The test is the definition's.
-- Assumes nothing.
use borrow.Author.Tests.{lt-ltb, le-ltb}
use Rattle.capture.specs.Stream.{keep}
use Rattle.capture.proofs.keep.Goals as goal

pub returns-then-n : goal.returns-then-n
unfolding keep
returns-then-n c = simp (lt-ltb _ _ c.if-n.true)

pub returns-else-n : goal.returns-else-n
unfolding keep
returns-else-n c = simp (le-ltb _ _ c.if-n.false)
