-- Each turn lays one group and what stands after it; see DecodeLoop.
-- Assumes nothing.
use Prim.Native.Nat.{◌-◌}
use lib.ListN.{length}
use Rattle.cobs.proofs.DecodeLoop.{Decoding}
use Rattle.cobs.proofs.decode_into.Given as goal

abbrev pub invariant-loop-r : goal.invariant-loop-r
invariant-loop-r l = Decoding l.src l.initial.dst l.dst l.r l.w

abbrev pub decreases-loop-r : goal.decreases-loop-r
decreases-loop-r l = length l.src - l.r
