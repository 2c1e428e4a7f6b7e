-- The loop keeps `Turn`: what is left to write, laid on the output as it is, is all, laid on the output as it was.
-- Assumes nothing.
use Rattle.queue.proofs.Laws.{Turn}
use Rattle.queue.proofs.cancel.Given as goal

abbrev pub invariant-loop-left : goal.invariant-loop-left
invariant-loop-left l = Turn l.commands l.slot l.n l.at l.initial.out l.k l.left l.w l.out

abbrev pub decreases-loop-left : goal.decreases-loop-left
decreases-loop-left l = l.left
