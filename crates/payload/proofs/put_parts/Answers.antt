-- Two copies, one after the other, are one piece.
-- Assumes nothing.
use mathlib.Core.Path.{ap, ◌∙◌}
use native.Mathlib.Nat.{zero-add}
use native.Mathlib.Omega.{arith}
use lib.ListN.{length, length-append}
use Rattle.buffer.specs.Lay.{lay}
use Rattle.buffer.proofs.Laws.{lay-lay}
use Rattle.payload.proofs.put_parts.Goals as goal

pub returns : goal.returns
returns c =
    let copy = c.copy in
    let copy2 = c.copy-2 in
    let a = c.args.fields.now in
    let b = c.args.bytes.now in
    let d = c.args.dst.now in
    let n = length-append a b in
    record {
      value = omega arith;
      dst_after = copy2.ensures ∙ ap (lay (length a) b) copy.ensures ∙ rw zero-add
          at (lay-lay 0 a d (omega (arith, c.requires)) b);
    }
