-- The loop's invariant: a bound on its counter, and the length of the array.
-- Assumes nothing.
use Rattle.std.proofs.Common.{◌≡◌, ◌-◌, ◌≤◌, length}
use Rattle.benchmark.proofs.bytes.Given as goal

abbrev pub invariant-loop-i : goal.invariant-loop-i
invariant-loop-i l = (l.i ≤ 255) × (length l.all ≡ 255)

abbrev pub decreases-loop-i : goal.decreases-loop-i
decreases-loop-i l = 255 - l.i
