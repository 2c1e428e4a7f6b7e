-- The line has room (Laws).
-- Assumes nothing.
use Rattle.std.proofs.Common.{arith}
use Rattle.text.specs.Text.{text}
use Rattle.replay.proofs.Laws.{count_most}
use Rattle.replay.proofs.print.events.Goals as goal

pub events-k-requires : goal.events-k-requires
events-k-requires g c = omega (arith, count_most (text "events ") c.args.n)
