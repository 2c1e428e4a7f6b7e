-- Each turn lays one group and what stands after it; see DecodeLoop.
-- Assumes nothing.
use Prim.Native.Nat.{◌-◌}
use native.Mathlib.Omega.{arith}
use Rattle.buffer.proofs.Laying.{done}
use Rattle.cobs.proofs.DecodeLoop.{begin, bounds, first-inside, less, zero-fits, turn-zero, turn-full, turn_last, end}
use Rattle.cobs.proofs.decode_into.Goals as goal

pub loop-r-init : goal.loop-r-init
loop-r-init c = begin _ _ c.requires.src_value c.requires.src_in_bounds

pub slice_bounds-copy-count : goal.slice_bounds-copy-count
slice_bounds-copy-count c = first-inside c.loop-r.invariant c.loop-r-test.true

pub slice_bounds-copy-start : goal.slice_bounds-copy-start
slice_bounds-copy-start c = first-inside c.loop-r.invariant c.loop-r-test.true

pub slice_bounds-copy-end : goal.slice_bounds-copy-end
slice_bounds-copy-end c = (bounds c.loop-r.invariant c.loop-r-test.true).1

pub copy-requires : goal.copy-requires
copy-requires c =
    let loop = c.loop-r in
    let loop-test = c.loop-r-test in
    (bounds loop.invariant loop-test.true).2

pub overflow_sub-w : goal.overflow_sub-w
overflow_sub-w c =
    let loop = c.loop-r in
    let loop-test = c.loop-r-test in
    (bounds loop.invariant loop-test.true).0

pub bounds-dst-w : goal.bounds-dst-w
bounds-dst-w c =
    let loop = c.loop-r in
    let loop-test = c.loop-r-test in
    let copy = c.copy in
    let if1 = c.if-code in
    rw copy.ensures
    (zero-fits loop.invariant loop-test.true if1.true c.if-r-src.true)

pub loop-r-smaller-then-r-src : goal.loop-r-smaller-then-r-src
loop-r-smaller-then-r-src c =
    let loop = c.loop-r in
    let loop-test = c.loop-r-test in
    less loop.invariant loop-test.true

pub loop-r-preserved-then-r-src : goal.loop-r-preserved-then-r-src
loop-r-preserved-then-r-src c =
    let loop = c.loop-r in
    let loop-test = c.loop-r-test in
    let copy = c.copy in
    let if1 = c.if-code in
    rw copy.ensures
    (turn-zero loop.invariant loop-test.true if1.true c.if-r-src.true)

pub loop-r-preserved-else-r-src : goal.loop-r-preserved-else-r-src
loop-r-preserved-else-r-src c =
    let loop = c.loop-r in
    let loop-test = c.loop-r-test in
    let copy = c.copy in
    rw copy.ensures
    (turn_last loop.invariant loop-test.true c.if-r-src.false)

pub loop-r-preserved : goal.loop-r-preserved
loop-r-preserved c =
    let loop = c.loop-r in
    let loop-test = c.loop-r-test in
    let copy = c.copy in
    rw copy.ensures
    (turn-full loop.invariant loop-test.true c.if-code.false)

pub returns : goal.returns
returns c =
    let l = end c.loop-r.invariant c.loop-r-test.false in
    record { value = omega arith; dst_after = done l }
