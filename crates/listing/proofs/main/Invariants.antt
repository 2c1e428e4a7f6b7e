-- Each turn takes some bytes, so the loop ends; the arrays keep their lengths, and the output keeps room for a piece.
-- Assumes nothing.
use Rattle.std.proofs.Common.{◌≡◌, ◌+◌, ◌-◌, ◌≤◌, length}
use Rattle.cobs.specs.Answers.{encoded_max}
use Rattle.listing.specs.Turns.{piece_max, output, filled_max, listed_max}
use Rattle.listing.proofs.main.Given as goal

abbrev pub invariant-loop-s : goal.invariant-loop-s
invariant-loop-s l = (encoded_max ≡ length l.run) × (output ≡ length l.out) × (l.s.filled ≤ filled_max) × (l.s.at + l.s.len ≤ listed_max + piece_max)

abbrev pub decreases-loop-s : goal.decreases-loop-s
decreases-loop-s l = listed_max - (l.s.at + l.s.len)
