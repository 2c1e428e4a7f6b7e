-- The same tests in the same order, put together otherwise.
-- Assumes nothing.
use mathlib.Core.Bool.{or_assoc}
use Rattle.airtime.specs.Airtime.{outside}
use Rattle.airtime.proofs.outside.Goals as goal

pub returns : goal.returns
unfolding outside
returns c = simp or_assoc
