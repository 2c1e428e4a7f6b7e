-- Each turn takes some bytes, so the loop ends; the arrays keep their lengths, and the output keeps room for a piece.
-- Assumes nothing.
use Rattle.std.proofs.Common.{arith}
use Rattle.capture.specs.Listing.{heading}
use Rattle.capture.specs.Stream.{start_stream}
use Rattle.listing.proofs.main.Goals as goal

pub start-s-requires : goal.start-s-requires
unfolding heading
start-s-requires c = omega (arith, c.output-out.ensures)

pub loop-s-init : goal.loop-s-init
unfolding heading start_stream
loop-s-init c = rw c.start-s.ensures.value (omega (arith, c.output-out.ensures, c.start-s.auto.dst))
