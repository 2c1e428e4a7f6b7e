-- The size is exact.
-- Assumes nothing.
use Rattle.wellformed.specs.Checking.{fits_written}
use Rattle.wellformed.proofs.fits_written.Goals as goal

pub returns : goal.returns
unfolding fits_written
returns c = rw c.form_of.ensures at c.exactly.ensures
