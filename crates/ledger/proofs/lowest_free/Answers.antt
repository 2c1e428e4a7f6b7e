-- Where not all sixteen digits are set, the lowest clear one is below sixteen.
-- Assumes nothing.
use Rattle.std.proofs.Common.{refl}
use Rattle.ledger.specs.Digits.{lowest}
use Rattle.ledger.proofs.Digits.{lowest-right}
use Rattle.ledger.proofs.lowest_free.Goals as goal

pub returns : goal.returns
unfolding lowest
returns c = let l = lowest-right c.args.used c.requires in (refl, l.0, l.1)
