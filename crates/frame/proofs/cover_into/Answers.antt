-- Each call lays the next piece.
-- Assumes nothing.
use native.Mathlib.Omega.{arith}
use lib.ListN.{length-set}
use Rattle.scalar.proofs.Laws.{length-le}
use Rattle.frame.proofs.Laws.{length-covered}
use Rattle.frame.proofs.Building.{covered-laid}
use Rattle.frame.proofs.cover_into.Goals as goal

pub bounds-dst-0 : goal.bounds-dst-0
bounds-dst-0 c =
    omega (arith, c.requires, length-covered c.args.kind c.args.tag c.args.payload.now)

pub copy-requires : goal.copy-requires
copy-requires c =
    let bytes-of-u16 = c.bytes_of_u16-t in
    rw (bytes-of-u16.ensures, length-le, length-set)
    (omega (arith, c.requires, length-covered c.args.kind c.args.tag c.args.payload.now))

pub copy-requires-2 : goal.copy-requires-2
copy-requires-2 c =
    let copy = c.copy in
    rw (copy.auto.dst, length-set)
    (omega (arith, c.requires, length-covered c.args.kind c.args.tag c.args.payload.now))

pub returns : goal.returns
returns c =
    let bytes-of-u16 = c.bytes_of_u16-t in
    let copy = c.copy in
    let copy2 = c.copy-2 in
    rw (copy2.ensures, copy.ensures, bytes-of-u16.ensures)
    (covered-laid c.args.kind c.args.tag c.args.payload.now c.args.dst.now c.requires)
