-- The groups still to come end where the whole ends. No code is zero, so each turn goes on.
-- Assumes nothing.
use mathlib.Core.Path.{◌≡◌}
use Prim.Native.Nat.{◌-◌, ◌≤◌}
use lib.ListN.{length, drop}
use Rattle.cobs.specs.Decoding.{whole}
use Rattle.cobs.proofs.is_whole.Given as goal

abbrev pub invariant-loop-r : goal.invariant-loop-r
invariant-loop-r l = (l.r ≤ length l.src) × (whole 0 (drop l.r l.src) ≡ whole 0 l.src)

abbrev pub decreases-loop-r : goal.decreases-loop-r
decreases-loop-r l = length l.src - l.r
