-- The groups still to come end where the whole ends. No code is zero, so each turn goes on.
-- Assumes nothing.
use mathlib.Core.Path.{sym, ◌∙◌}
use Prim.Native.Nat.{◌-◌}
use native.Mathlib.Nat.{pos_of_ne-zero}
use native.Mathlib.Omega.{arith}
use Rattle.cobs.proofs.Reading.{no-zero-at, whole-more, whole-past, whole-done}
use Rattle.cobs.proofs.is_whole.Goals as goal

pub returns-then-src-r : goal.returns-then-src-r
returns-then-src-r c =
    let l = c.loop-r in
    let s = c.args.src.now in
    let some = pos_of_ne-zero (no-zero-at s c.requires l.r (omega arith)) in
    sym (sym l.invariant.1 ∙ whole-past s l.r (omega arith) some (omega arith))

pub loop-r-smaller : goal.loop-r-smaller
loop-r-smaller c =
    let l = c.loop-r in
    let s = c.args.src.now in
    let some = pos_of_ne-zero (no-zero-at s c.requires l.r (omega arith)) in
    omega arith

pub loop-r-preserved : goal.loop-r-preserved
loop-r-preserved c =
    let l = c.loop-r in
    let s = c.args.src.now in
    let some = pos_of_ne-zero (no-zero-at s c.requires l.r (omega arith)) in
    (omega arith, whole-more s l.r (omega arith) some (omega arith) ∙ l.invariant.1)

pub returns : goal.returns
returns c =
    let l = c.loop-r in
    sym (sym l.invariant.1 ∙ whole-done c.args.src.now l.r (omega arith))
