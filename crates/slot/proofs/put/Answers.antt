-- The length, the tag and the payload are laid one after another.
-- Assumes nothing.
use native.Mathlib.Omega.{arith}
use Rattle.slot.proofs.Laws.{slot-laid}
use Rattle.slot.proofs.put.Goals as goal

pub returns : goal.returns
returns c =
    let bytes-of-u16 = c.bytes_of_u16-t in
    let copy = c.copy in
    let copy2 = c.copy-2 in
    let s = c.args in
    rw (copy2.ensures, copy.ensures, bytes-of-u16.ensures)
    (slot-laid s.at s.tag s.payload.now s.memory.now (omega (arith, c.requires.payload_in_bounds)))
