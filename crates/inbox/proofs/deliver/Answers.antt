-- The count is laid into the slot, whose first byte it leaves, so the part that is sent is the payload of the slot as it is then.
-- Assumes nothing.
use Rattle.inbox.proofs.Laws.{counted-at, payload-part}
use Rattle.inbox.proofs.deliver.Goals as goal

pub returns : goal.returns
returns c =
    let s = c.args in
    let p = c.requires in
    let bytes-of-u16 = c.bytes_of_u16-count in
    let copy = c.copy in
    let write = c.write in
    let e = counted-at s.packets.now s.slot s.drops bytes-of-u16.ensures copy.ensures in
    record { packets_after = e; writes = rw (e, payload-part s.packets.now s.slot s.drops p.slot_lt_ring_max p.packets_len) at write.ensures }
