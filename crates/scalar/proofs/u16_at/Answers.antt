-- Two columns of one byte, side by side.
-- Assumes nothing.
use Prim.Native.Nat.{◌+◌}
use native.Mathlib.Omega.{arith}
use Rattle.scalar.proofs.Laws.{get-byte, get-join}
use Rattle.scalar.proofs.u16_at.Goals as goal

pub returns : goal.returns
returns c =
    let at = c.args.at in
    let s = c.args.s.now in
    get-join at 1 1 s (omega arith) (get-byte at s (omega arith)) (get-byte (at + 1) s (omega arith))
