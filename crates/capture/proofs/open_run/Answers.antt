-- A run that is not too long is kept whole, and opened.
-- Assumes nothing.
use borrow.Author.Tests.{lt-ltb, le-ltb}
use Rattle.capture.specs.Stream.{open_run}
use Rattle.capture.proofs.open_run.Goals as goal

pub returns-then-n : goal.returns-then-n
unfolding open_run
returns-then-n c = simp (lt-ltb _ _ c.if-n.true)

pub returns : goal.returns
unfolding open_run
returns c =
    let if1 = c.if-n in
    let unpack = c.unpack in
    simp (le-ltb _ _ if1.false) unpack.ensures.value
