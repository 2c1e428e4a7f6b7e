-- The check value is that of the bytes before it.
-- Assumes nothing.
use mathlib.Core.Path.{sym}
use native.Mathlib.Omega.{arith}
use lib.Seq.{length-take-le}
use Rattle.scalar.proofs.Laws.{length-le}
use Rattle.frame.proofs.Laws.{length-covered, length-body}
use Rattle.frame.proofs.Building.{covered-read, body-laid}
use Rattle.frame.proofs.build_into.Goals as goal

pub cover_into-requires : goal.cover_into-requires
cover_into-requires c =
    let n = length-covered c.args.kind c.args.tag c.args.payload.now in
    let m = length-body c.args.kind c.args.tag c.args.payload.now in
    omega (arith, c.requires)

pub slice_bounds-crc16-end : goal.slice_bounds-crc16-end
slice_bounds-crc16-end c =
    let cover-into = c.cover_into in
    let m = length-body c.args.kind c.args.tag c.args.payload.now in
    rw cover-into.auto.dst (omega (arith, c.requires))

pub slice_bounds-crc16-end-2 : goal.slice_bounds-crc16-end-2
slice_bounds-crc16-end-2 c =
    let cover-into = c.cover_into in
    let m = length-body c.args.kind c.args.tag c.args.payload.now in
    sym
    (length-take-le _ cover-into.new.dst
    (rw cover-into.auto.dst (omega (arith, c.requires))))

pub copy-requires : goal.copy-requires
copy-requires c =
    let cover-into = c.cover_into in
    let bytes-of-u16 = c.bytes_of_u16-check in
    let m = length-body c.args.kind c.args.tag c.args.payload.now in
    rw (bytes-of-u16.ensures, length-le, cover-into.auto.dst) (omega (arith, c.requires))

pub returns : goal.returns
returns c =
    let cover-into = c.cover_into in
    let crc16 = c.crc16 in
    let bytes-of-u16 = c.bytes_of_u16-check in
    let copy = c.copy in
    let k = c.args.kind in
    let t = c.args.tag in
    let p = c.args.payload.now in
    let d = c.args.dst.now in
    rw (
      copy.ensures,
      bytes-of-u16.ensures,
      crc16.ensures,
      cover-into.ensures,
      covered-read k t p d,
    )
    (body-laid k t p d c.requires)
