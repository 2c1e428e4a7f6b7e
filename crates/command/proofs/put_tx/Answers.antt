-- One byte, and one piece after it.
-- Assumes nothing.
use mathlib.Core.Path.{◌∙◌}
use native.Mathlib.Omega.{arith}
use lib.ListN.{length-set}
use Rattle.buffer.proofs.Laws.{lay-next}
use Rattle.command.proofs.Laws.{tx-bytes}
use Rattle.command.proofs.put_tx.Goals as goal

pub bounds-dst-0 : goal.bounds-dst-0
bounds-dst-0 c =
    let e = tx-bytes c.args.flags c.args.packet.now c.ranges.flags.fits in
    omega (arith, rw e at c.requires)

pub copy-requires : goal.copy-requires
copy-requires c =
    let e = tx-bytes c.args.flags c.args.packet.now c.ranges.flags.fits in
    simp length-set (omega (arith, rw e at c.requires))

pub returns : goal.returns
returns c =
    let copy = c.copy in
    let f = c.args.flags in
    let s = c.args.packet.now in
    let d = c.args.dst.now in
    let e = tx-bytes f s c.ranges.flags.fits in
    let h = rw e at c.requires in
    record { value = rw e (omega arith); dst_after = rw e (copy.ensures ∙ lay-next 0 f s d (omega arith)) }
