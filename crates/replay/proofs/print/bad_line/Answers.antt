-- The line has room (Laws).
-- Assumes nothing.
use Rattle.std.proofs.Common.{arith}
use Rattle.text.specs.Text.{text}
use Rattle.replay.proofs.Laws.{count_most}
use Rattle.replay.proofs.print.bad_line.Goals as goal

pub bad_line-k-requires : goal.bad_line-k-requires
bad_line-k-requires g c = omega (arith, count_most (text "bad line ") c.args.n)
