-- Each turn lays the two digits of a byte.
-- Assumes nothing.
use lib.ListN.{length, drop}
use Prim.Native.Nat.{◌-◌, ◌≤◌}
use Rattle.buffer.proofs.Laying.{Laying}
use Rattle.text.specs.Text.{hex}
use Rattle.text.proofs.hex.Given as goal

abbrev pub invariant-loop-i : goal.invariant-loop-i
invariant-loop-i l = (l.i ≤ length l.bytes) × Laying l.from (hex l.bytes) l.initial.dst l.at (hex (drop l.i l.bytes)) l.dst

abbrev pub decreases-loop-i : goal.decreases-loop-i
decreases-loop-i l = length l.bytes - l.i
