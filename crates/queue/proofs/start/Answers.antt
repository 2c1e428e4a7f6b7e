-- Each part of the answer is read from the slot as the definition reads it.
-- Assumes nothing.
use Rattle.control.proofs.Laws.{plain}
use Rattle.queue.specs.Queue.{start}
use Rattle.queue.proofs.start.Goals as goal

pub returns : goal.returns
unfolding start
returns c =
    let len-at = c.len_at-len in
    let u16-at = c.u16_at-tag in
    let listens = c.listens-listen in
    let begun = c.begun-radio in
    let with-air = c.with_air-e in
    plain _ _ _ (rw (with-air.ensures, begun.ensures, listens.ensures, u16-at.ensures, len-at.ensures.0) at c.done.ensures)
