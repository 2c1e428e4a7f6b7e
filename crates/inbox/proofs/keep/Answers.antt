-- By cases: a packet that is cut, and one that is not.
-- Assumes nothing.
use mathlib.Core.Path.{sym, ◌∙◌}
use native.Mathlib.Omega.{arith}
use lib.ListN.{length-take}
use lib.Seq.{length-take-le}
use Rattle.inbox.proofs.Laws.{keep-whole, keep-cut}
use Rattle.inbox.proofs.keep.Goals as goal

pub slice_bounds-put-end : goal.slice_bounds-put-end
slice_bounds-put-end c =
    let if1 = c.if-bytes-gt-PACKET_MAX in
    sym (length-take-le _ c.args.bytes.now (omega (arith, if1.true)))

pub put-requires : goal.put-requires
put-requires c =
    record { bytes_len_bound = rw length-take (omega arith); held_size_in_bounds = omega (arith, c.requires) }

pub returns-then-bytes-gt-PACKET_MAX : goal.returns-then-bytes-gt-PACKET_MAX
returns-then-bytes-gt-PACKET_MAX c =
    let if1 = c.if-bytes-gt-PACKET_MAX in
    let s = c.args in c.put.ensures ∙ keep-cut s.packets.now s.slot s.h s.bytes.now if1.true

pub returns : goal.returns
returns c =
    let if1 = c.if-bytes-gt-PACKET_MAX in
    let s = c.args in c.put-2.ensures ∙ keep-whole s.packets.now s.slot s.h s.bytes.now if1.false
