-- The code has the definition's tests.
-- Assumes nothing.
use mathlib.Core.Path.{refl}
use Rattle.kind.specs.Kinds.{is_answer}
use Rattle.kind.proofs.is_answer.Goals as goal

pub returns : goal.returns
unfolding is_answer
returns c = refl
