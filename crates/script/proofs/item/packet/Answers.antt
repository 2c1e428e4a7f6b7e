-- Where the head is bad, no bytes are put.
-- Assumes nothing.
use Rattle.std.proofs.Common.{sym}
use Rattle.buffer.proofs.Laws.{lay-none}
use Rattle.script.proofs.item.packet.Goals as goal

pub returns-in_err-head-clause-memory_after : goal.returns-in_err-head-clause-memory_after
returns-in_err-head-clause-memory_after c = rw c.in_err-head.ensures.head (sym (lay-none 0 _))
