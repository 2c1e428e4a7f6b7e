-- Each byte is the rest of a division by 256, and the quotient goes on: as the definition says.
-- Assumes nothing.
use mathlib.Core.Path.{refl}
use Rattle.scalar.specs.Scalars.{le}
use Rattle.scalar.proofs.bytes_of_u16.Goals as goal

pub returns : goal.returns
unfolding le
returns c = refl
