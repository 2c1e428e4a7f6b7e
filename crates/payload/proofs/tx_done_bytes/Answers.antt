-- What the call promised, of its bytes the first four; a byte modulo 256 is itself.
-- Assumes nothing.
use mathlib.Core.Path.{sym}
use mathlib.Core.List.{[], ◌∷◌}
use native.Mathlib.Nat.{mod-eq_of_lt}
use lib.ListN.{get_or}
use Rattle.buffer.specs.Lay.{lay}
use Rattle.scalar.specs.Scalars.{le}
use Rattle.answer.specs.Answers.{tx_done_bytes}
use Rattle.payload.proofs.tx_done_bytes.Goals as goal

pub returns : goal.returns
unfolding tx_done_bytes lay le
returns c =
    let time = c.bytes_of_u64-time.ensures in
    λ i. sym (mod-eq_of_lt c.ranges.res.fits) i ∷ get_or (time i) 0 0 ∷ get_or (time i) 1 0 ∷ get_or (time i) 2 0 ∷ get_or (time i) 3 0 ∷ []
