-- The branch is LDRO's.
-- Assumes nothing.
use mathlib.Core.Path.{sym}
use Rattle.airtime.specs.Airtime.{divisor}
use Rattle.airtime.proofs.divisor.Goals as goal

pub returns-then-slow : goal.returns-then-slow
unfolding divisor
returns-then-slow c = simp (sym c.slow.ensures, c.if-slow.true)

pub returns : goal.returns
unfolding divisor
returns c = simp (sym c.slow.ensures, c.if-slow.false)
