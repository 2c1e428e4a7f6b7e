-- A byte is a zero, or joins (Laws).
-- Assumes nothing.
use mathlib.Core.Path.{refl}
use Rattle.control.proofs.Laws.{silently}
use Rattle.link.proofs.Laws.{join-byte, join-writes-nothing}
use Rattle.link.proofs.byte.Goals as goal

pub returns : goal.returns
returns c =
    let a = c.args in
    let j = c.join.ensures in
    rw (join-byte _ a.run.now a.commands.now a.d a.b c.if-b-eq0.false)
    (record { answers = silently _ _ (join-writes-nothing _ a.b a.run.now a.d) j.returns; run = j.run_after; commands = refl })
