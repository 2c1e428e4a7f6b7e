-- What was found, or is still to be found, is what there is to find.
-- Assumes nothing.
use mathlib.Core.Path.{sym, ◌∙◌}
use Prim.Native.Nat.{◌-◌}
use native.Mathlib.Omega.{arith}
use Rattle.cobs.proofs.Reading.{zero_more, zero-done}
use Rattle.cobs.proofs.has_zero.Goals as goal

pub loop-i-preserved : goal.loop-i-preserved
loop-i-preserved c =
    let l = c.loop-i in
    (omega arith, zero_more l.found c.args.src.now l.i (omega arith) ∙ l.invariant.1)

pub returns : goal.returns
returns c =
    let l = c.loop-i in
    sym (zero-done l.found c.args.src.now l.i (omega arith)) ∙ l.invariant.1
