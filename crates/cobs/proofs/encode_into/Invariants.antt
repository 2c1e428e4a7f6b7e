-- Each turn lays one group with its code; see EncodeLoop.
-- Assumes nothing.
use Prim.Native.Nat.{◌-◌}
use lib.ListN.{length}
use Rattle.cobs.proofs.EncodeLoop.{Encoding}
use Rattle.cobs.proofs.encode_into.Given as goal

abbrev pub invariant-loop-r : goal.invariant-loop-r
invariant-loop-r l = Encoding l.src l.initial.dst l.dst l.r l.w

abbrev pub decreases-loop-r : goal.decreases-loop-r
decreases-loop-r l = length l.src - l.r
