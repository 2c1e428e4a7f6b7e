-- The code has the definition's tests.
-- Assumes nothing.
use mathlib.Core.Path.{refl}
use Rattle.kind.specs.Kinds.{is_command}
use Rattle.kind.proofs.is_command.Goals as goal

pub returns : goal.returns
unfolding is_command
returns c = refl
