-- The text is the definition's.
-- Assumes nothing.
use Rattle.capture.specs.Listing.{heading}
use Rattle.capture.specs.Stream.{start_stream}
use Rattle.capture.proofs.start.Goals as goal

pub put-filled-requires : goal.put-filled-requires
unfolding heading
put-filled-requires c =
    c.requires

pub returns : goal.returns
unfolding heading start_stream
returns c =
    record { value = λ i. record { at = 0; len = 0; filled = c.put-filled.ensures.value i }; dst_after = c.put-filled.ensures.dst_after }
