-- The bytes of src that are still to come are the rest that is laid.
-- Assumes nothing.
use Prim.Native.Nat.{◌-◌}
use native.Mathlib.Nat.{add_assoc}
use native.Mathlib.Omega.{arith}
use Rattle.buffer.proofs.Laws.{next, no_more}
use Rattle.buffer.proofs.Laying.{byte, done}
use Rattle.buffer.proofs.copy.Goals as goal

pub loop-i-preserved : goal.loop-i-preserved
loop-i-preserved c =
    let l = c.loop-i in
    let e = next c.args.src.now l.i (omega arith) in
    (omega arith, rw add_assoc at (byte (rw e at l.invariant.1)))

pub returns : goal.returns
returns c =
    let l = c.loop-i in
    let e = no_more c.args.src.now l.i (omega arith) in
    done (rw e at l.invariant.1)
