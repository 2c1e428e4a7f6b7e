-- Each turn lays the two digits of a byte.
-- Assumes nothing.
use Rattle.text.proofs.Hexes.{two-fit, two}
use lib.ListN.{length-set}
use Rattle.buffer.proofs.Laying.{done}
use Rattle.buffer.proofs.Laws.{no_more}
use Rattle.text.specs.Text.{hex}
use native.Mathlib.Omega.{arith}
use Rattle.text.proofs.hex.Goals as goal

pub bounds-dst-at : goal.bounds-dst-at
bounds-dst-at c =
    let loop = c.loop-i in
    let loop-test = c.loop-i-test in
    omega (arith, two-fit c.args.bytes.now loop.i loop-test.true loop.invariant.1)

pub bounds-dst-at-in-loop-i : goal.bounds-dst-at-in-loop-i
bounds-dst-at-in-loop-i c =
    let loop = c.loop-i in
    let loop-test = c.loop-i-test in
    let digit = c.digit in
    omega (arith, two-fit c.args.bytes.now loop.i loop-test.true loop.invariant.1, length-set loop.dst loop.at digit.result)

pub loop-i-preserved : goal.loop-i-preserved
loop-i-preserved c =
    let loop = c.loop-i in
    let loop-test = c.loop-i-test in
    let digit = c.digit in
    (omega (arith, loop-test.true), rw (digit.ensures, c.digit-in-loop-i.ensures) (two c.args.bytes.now loop.i loop-test.true loop.invariant.1))

pub returns : goal.returns
unfolding hex
returns c =
    let loop = c.loop-i in
    let e = no_more c.args.bytes.now loop.i (omega arith) in
    let l = rw e at loop.invariant.1 in
    record { value = omega (arith, l.size); dst_after = done l }
