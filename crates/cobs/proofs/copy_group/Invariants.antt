-- What is left of the group is the rest that is laid.
-- Assumes nothing.
use mathlib.Core.Path.{◌≡◌}
use Prim.Native.Nat.{◌+◌, ◌-◌, ◌≤◌, min}
use lib.ListN.{length, drop}
use Rattle.buffer.proofs.Laying.{Laying}
use Rattle.cobs.specs.Groups.{full}
use Rattle.cobs.specs.Encoding.{group}
use Rattle.cobs.proofs.Cutting.{left}
use Rattle.cobs.proofs.copy_group.Given as goal

abbrev pub invariant-loop-i : goal.invariant-loop-i
invariant-loop-i l = (l.most ≡ min (length l.src) full) × (l.i ≤ l.most) × Laying l.at (group l.src) l.initial.dst (l.at + l.i) (left l.i (drop l.i l.src))
    l.dst

abbrev pub decreases-loop-i : goal.decreases-loop-i
decreases-loop-i l = l.most - l.i
