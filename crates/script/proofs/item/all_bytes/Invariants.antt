-- The loop keeps `Gathering`, and goes on by a word each turn.
-- Assumes nothing.
use lib.ListN.{length}
use Rattle.script.specs.Words.{words}
use Rattle.script.proofs.Gathering.{Gathering}
use Rattle.script.proofs.item.all_bytes.Given as goal

abbrev pub invariant-loop-w : goal.invariant-loop-w
invariant-loop-w l = Gathering l.args l.rest l.initial.memory l.memory l.n

abbrev pub decreases-loop-w : goal.decreases-loop-w
decreases-loop-w l = length (words l.rest)
