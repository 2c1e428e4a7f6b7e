-- Two columns of four bytes, side by side.
-- Assumes nothing.
use native.Mathlib.Omega.{arith}
use Rattle.scalar.proofs.Laws.{get-join}
use Rattle.scalar.proofs.u64_at.Goals as goal

pub returns : goal.returns
returns c =
    let u32-at = c.u32_at-low in
    get-join c.args.at 4 4 c.args.s.now (omega arith) u32-at.ensures c.u32_at-high.ensures
