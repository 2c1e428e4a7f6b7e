-- The TX that wait are reported first; the rest is the definition's, field by field.
-- Assumes nothing.
use Rattle.control.proofs.Laws.{spoken}
use Rattle.queue.specs.Queue.{begin}
use Rattle.queue.proofs.configure.Goals as goal

pub returns : goal.returns
unfolding begin
returns c =
    let bounded = c.bounded-n in
    let cancel = c.cancel-w in
    let with-air = c.with_air-e in
    let len-at = c.len_at-len in
    let ldro = c.ldro in
    let e = bounded.ensures in
    spoken _ _ (record { ends = rw e at cancel.ensures.value; lays = rw e at cancel.ensures.out_after })
    (rw (with-air.ensures, len-at.ensures.0, ldro.ensures) at c.done.ensures)
