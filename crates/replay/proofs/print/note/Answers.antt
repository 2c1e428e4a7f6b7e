-- A line has room (Laws).
-- Assumes nothing.
use Rattle.std.proofs.Common.{◌≤◌, length, arith, rules}
use Rattle.replay.proofs.Laws.{event-most}
use Rattle.replay.proofs.print.note.Goals as goal

pub event-n-requires : goal.event-n-requires
event-n-requires g c =
    let m = c.args.commands.now in
    let o = c.args.out.now in
    let h : length m ≤ 4403 = search rules in
    let l : length o ≤ 4096 = search rules in
    omega (arith, event-most c.args.index c.args.a m o h l)
