-- Past the end there is no byte; before it there is one.
-- Assumes nothing.
use native.Mathlib.Omega.{arith}
use Rattle.buffer.proofs.Laws.{no_more}
use Rattle.scalar.specs.Scalars.{number}
use Rattle.scalar.proofs.Laws.{get-byte}
use Rattle.info.proofs.byte.Goals as goal

pub returns-then-payload-at : goal.returns-then-payload-at
unfolding number
returns-then-payload-at c = rw (no_more c.args.payload.now c.args.at c.if-payload-at.true)

pub returns : goal.returns
returns c = get-byte c.args.at c.args.payload.now (omega arith)
