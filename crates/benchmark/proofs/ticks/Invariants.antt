-- The loop's invariant is a bound on its counter.
-- Assumes nothing.
use Rattle.std.proofs.Common.{◌-◌, ◌≤◌}
use Rattle.benchmark.proofs.ticks.Given as goal

abbrev pub invariant-loop-i : goal.invariant-loop-i
invariant-loop-i l = l.i ≤ 999

abbrev pub decreases-loop-i : goal.decreases-loop-i
decreases-loop-i l = 999 - l.i
