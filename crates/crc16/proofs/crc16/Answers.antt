-- The check value from here on stays the check value of the whole.
-- Assumes nothing.
use mathlib.Core.Path.{sym, ◌∙◌}
use Prim.Native.Nat.{◌-◌}
use native.Mathlib.Omega.{arith}
use borrow.Author.Rules.{rules}
use Rattle.crc16.specs.Crc.{crc_of}
use Rattle.crc16.proofs.Laws.{crc-more, crc-done}
use Rattle.crc16.proofs.crc16.Goals as goal

pub loop-i-init : goal.loop-i-init
unfolding crc_of
loop-i-init c = search rules

pub loop-i-preserved : goal.loop-i-preserved
loop-i-preserved c =
    let l = c.loop-i in
    let loop-test = c.loop-i-test in
    let src = c.args.src.now in
    (omega arith, rw c.step-c.ensures (sym (crc-more l.c l.i src loop-test.true) ∙ l.invariant.1))

pub returns : goal.returns
returns c =
    let l = c.loop-i in
    sym (crc-done l.c l.i c.args.src.now c.loop-i-test.false) ∙ l.invariant.1
