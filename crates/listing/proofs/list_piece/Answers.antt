-- What `feed` answers counts the whole piece, which has a byte at least and 4,096 at most.
-- Assumes nothing.
use Rattle.std.proofs.Common.{◌≤◌, length, arith, length-take}
use Rattle.capture.proofs.Lengths.{fed-goes-on, fed-fills}
use Rattle.listing.proofs.list_piece.Goals.{in-Ok, in-Err}
use Rattle.listing.proofs.list_piece.Goals as goal

pub returns-then-filled-le-FILLED_MAX : goal.returns-then-filled-le-FILLED_MAX
returns-then-filled-le-FILLED_MAX g c =
    let m = fed-goes-on _ _ _ _ c.feed-t.ensures.value in
    let b : c.match-read.n ≤ length c.read.new.buf = elim c.match-read.branch
    [ in-Ok w ↦ omega (arith, w.in-Ok.ensures.bound.0, w.n-is) | in-Err w ↦ omega (arith, w.n-is) ] in
    omega (arith, m, b, length-take c.match-read.n c.read.new.buf, c.read.auto.buf, c.if-n-eq0.false, c.if-filled-le-FILLED_MAX.true)

pub flush-requires-2 : goal.flush-requires-2
flush-requires-2 g c =
    let m = fed-fills _ _ _ _ c.feed-t.ensures.value in
    let b : c.match-read.n ≤ length c.read.new.buf = elim c.match-read.branch
    [ in-Ok w ↦ omega (arith, w.in-Ok.ensures.bound.0, w.n-is) | in-Err w ↦ omega (arith, w.n-is) ] in
    omega (arith, m, b, length-take c.match-read.n c.read.new.buf, c.read.auto.buf, c.feed-t.auto.dst, c.requires.filled_le_filled_max, c.requires.output_value)

pub returns-then-flush : goal.returns-then-flush
returns-then-flush g c =
    let m = fed-goes-on _ _ _ _ c.feed-t.ensures.value in
    let b : c.match-read.n ≤ length c.read.new.buf = elim c.match-read.branch
    [ in-Ok w ↦ omega (arith, w.in-Ok.ensures.bound.0, w.n-is) | in-Err w ↦ omega (arith, w.n-is) ] in
    omega (arith, m, b, length-take c.match-read.n c.read.new.buf, c.read.auto.buf, c.if-n-eq0.false)
