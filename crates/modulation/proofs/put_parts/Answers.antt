-- A store and two copies, one after the other, are one piece.
-- Assumes nothing.
use mathlib.Core.Path.{ap, ◌∙◌}
use mathlib.Core.List.{◌++◌}
use Prim.Native.Nat.{◌+◌}
use native.Mathlib.Omega.{arith}
use lib.ListN.{length, set, length-set, length-append}
use Rattle.buffer.specs.Lay.{lay}
use Rattle.buffer.proofs.Laws.{lay-lay, lay-next}
use Rattle.modulation.proofs.put_parts.Goals as goal

pub returns : goal.returns
returns c =
    let copy = c.copy in
    let copy2 = c.copy-2 in
    let d = c.args.dst.now in
    let at = c.args.at in
    let id = c.args.id in
    let a = c.args.params.now in
    let b = c.args.word.now in
    let n = length-append a b in
    let k = length-set d at id in
    record {
      value = omega arith;
      dst_after = copy2.ensures
          ∙ ap (lay (at + 1 + length a) b) copy.ensures
          ∙ lay-lay (at + 1) a (set d at id) (omega (arith, c.requires)) b
          ∙ lay-next at id (a ++ b) d (omega (arith, c.requires));
    }
