-- Three writes, each just after the one before it, are one: the law `put-slot`.
-- Assumes nothing.
use mathlib.Core.Path.{◌∙◌}
use Rattle.inbox.specs.Packets.{received_packet}
use Rattle.inbox.proofs.Laws.{put-slot}
use Rattle.inbox.proofs.put.Goals as goal

pub returns : goal.returns
returns c =
    let s = c.args in
    let fields-of = c.fields_of in
    let rx-bytes = c.rx_bytes-fields in
    let copy = c.copy in
    let copy2 = c.copy-2 in
    copy2.ensures
    ∙ rw (copy.ensures, rx-bytes.ensures, fields-of.ensures)
    (put-slot s.at (received_packet s.h s.bytes.now) s.memory.now c.requires.bytes_len_bound c.requires.held_size_in_bounds)
