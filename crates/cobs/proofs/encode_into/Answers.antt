-- Each turn lays one group with its code; see EncodeLoop.
-- Assumes nothing.
use Prim.Native.Nat.{◌-◌}
use native.Mathlib.Omega.{arith}
use Rattle.buffer.proofs.Laying.{done}
use Rattle.cobs.proofs.EncodeLoop.{begin, bounds, code_fits, turn-full, turn-zero, end}
use Rattle.cobs.proofs.encode_into.Goals as goal

pub loop-r-init : goal.loop-r-init
loop-r-init c = begin _ _ c.requires

pub copy_group-k-requires : goal.copy_group-k-requires
copy_group-k-requires c = (bounds c.loop-r.invariant).2

pub overflow_add-code : goal.overflow_add-code
overflow_add-code c =
    let loop = c.loop-r in
    let b = bounds loop.invariant in
    omega arith

pub overflow_cast-dst : goal.overflow_cast-dst
overflow_cast-dst c =
    let loop = c.loop-r in
    let b = bounds loop.invariant in
    omega arith

pub bounds-dst-w : goal.bounds-dst-w
bounds-dst-w c =
    let loop = c.loop-r in
    let copy-group = c.copy_group-k in
    let g = copy-group.ensures in
    code_fits loop.invariant g.value g.dst_after

pub overflow_add-r : goal.overflow_add-r
overflow_add-r c =
    let loop = c.loop-r in
    let b = bounds loop.invariant in
    omega arith

pub overflow_add-w-in-loop-r : goal.overflow_add-w-in-loop-r
overflow_add-w-in-loop-r c =
    let loop = c.loop-r in
    let b = bounds loop.invariant in
    omega arith

pub returns-then-src-r : goal.returns-then-src-r
returns-then-src-r c =
    let loop = c.loop-r in
    let copy-group = c.copy_group-k in
    let if1 = c.if-k-lt-FULL in
    let g = copy-group.ensures in
    let l = end loop.invariant g.value g.dst_after if1.true c.if-src-r.true in
    record { value = omega arith; dst_after = done l }

pub loop-r-preserved-then-k-lt-FULL : goal.loop-r-preserved-then-k-lt-FULL
loop-r-preserved-then-k-lt-FULL c =
    let loop = c.loop-r in
    let copy-group = c.copy_group-k in
    let if1 = c.if-k-lt-FULL in
    let g = copy-group.ensures in
    turn-zero loop.invariant g.value g.dst_after if1.true c.if-src-r.false

pub loop-r-smaller : goal.loop-r-smaller
loop-r-smaller c =
    let loop = c.loop-r in
    let b = bounds loop.invariant in
    omega arith

pub loop-r-preserved : goal.loop-r-preserved
loop-r-preserved c =
    let loop = c.loop-r in
    let copy-group = c.copy_group-k in
    let g = copy-group.ensures in
    turn-full loop.invariant g.value g.dst_after c.if-k-lt-FULL.false
