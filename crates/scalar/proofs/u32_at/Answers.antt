-- Two columns of two bytes, side by side.
-- Assumes nothing.
use native.Mathlib.Omega.{arith}
use Rattle.scalar.proofs.Laws.{get-join}
use Rattle.scalar.proofs.u32_at.Goals as goal

pub returns : goal.returns
returns c =
    let u16-at = c.u16_at-low in
    get-join c.args.at 2 2 c.args.s.now (omega arith) u16-at.ensures c.u16_at-high.ensures
