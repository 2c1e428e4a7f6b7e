-- Each return is one row of the definition, with the byte that the tests looked at.
-- Assumes nothing.
use native.Mathlib.Omega.{arith}
use Rattle.validation.proofs.Laws.{other-first}
use Rattle.validation.proofs.is_other_modulation.Goals as goal

pub returns : goal.returns
returns c = other-first c.args.payload.now (omega arith)
