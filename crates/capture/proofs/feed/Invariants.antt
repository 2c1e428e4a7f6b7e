-- The loop keeps `Feeding`; the counters stay below the bytes that came.
-- Assumes nothing.
use Prim.Native.Nat.{◌-◌}
use lib.ListN.{length}
use Rattle.capture.proofs.Feeding.{Feeding}
use Rattle.capture.proofs.feed.Given as goal

abbrev pub invariant-loop-i : goal.invariant-loop-i
invariant-loop-i l = Feeding l.piece l.initial.run l.initial.dst l.initial.at l.initial.len l.initial.filled l.run l.dst l.at l.len l.filled l.i

abbrev pub decreases-loop-i : goal.decreases-loop-i
decreases-loop-i l = length l.piece - l.i
