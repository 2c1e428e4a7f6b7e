-- What is left of the group is the rest that is laid.
-- Assumes nothing.
use mathlib.Core.Path.{◌≡◌}
use Prim.Native.Nat.{◌-◌, min}
use native.Mathlib.Nat.{add-zero, add_assoc}
use native.Mathlib.Omega.{arith}
use lib.ListN.{length}
use Rattle.buffer.proofs.Laying.{start, byte, done}
use Rattle.cobs.specs.Groups.{full}
use Rattle.cobs.specs.Encoding.{group}
use Rattle.cobs.proofs.Cutting.{left-zero, left-byte, left-done}
use Rattle.cobs.proofs.copy_group.Goals as goal
use Rattle.cobs.proofs.copy_group.Goals.{else-most-gt-FULL, then-most-gt-FULL}

pub loop-i-init : goal.loop-i-init
unfolding group
loop-i-init c =
    let most : c.if-most-gt-FULL.most ≡ min (length c.args.src.now) full =
    elim c.if-most-gt-FULL.branch [ then-most-gt-FULL w ↦ omega arith | else-most-gt-FULL w ↦ omega arith ] in
    (most, omega arith, rw add-zero (start _ _ _ c.requires))

pub returns-then-b-eq0 : goal.returns-then-b-eq0
returns-then-b-eq0 c =
    let l = c.loop-i in
    let e = left-zero c.args.src.now l.i (omega arith) (omega arith) c.if-b-eq0.true in
    let d = rw e at l.invariant.2 in
    record { value = omega arith; dst_after = done d }

pub bounds-dst-at : goal.bounds-dst-at
bounds-dst-at c =
    let l = c.loop-i in
    let e = left-byte c.args.src.now l.i (omega arith) (omega arith) c.if-b-eq0.false in
    omega (arith, rw e at l.invariant.2)

pub loop-i-preserved : goal.loop-i-preserved
loop-i-preserved c =
    let l = c.loop-i in
    let e = left-byte c.args.src.now l.i (omega arith) (omega arith) c.if-b-eq0.false in
    (l.invariant.0, omega arith, rw add_assoc at (byte (rw e at l.invariant.2)))

pub returns : goal.returns
returns c =
    let l = c.loop-i in
    let d = rw (left-done c.args.src.now l.i (omega arith)) at l.invariant.2 in
    record { value = omega arith; dst_after = done d }
