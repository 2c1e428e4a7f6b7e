-- The loop keeps `Turn`: what is left to write, laid on the output as it is, is all, laid on the output as it was.
-- Assumes nothing.
use Rattle.queue.proofs.Laws.{turn-next, turn_last}
use Rattle.queue.proofs.cancel.Goals as goal

pub loop-left-preserved : goal.loop-left-preserved
loop-left-preserved c =
    let loop = c.loop-left in
    let loop-test = c.loop-left-test in
    let u16-at = c.u16_at-tag in
    let write-tx-done = c.write_tx_done-w in
    turn-next loop.invariant loop-test.true u16-at.ensures write-tx-done.ensures write-tx-done.auto.out

pub returns : goal.returns
returns c =
    let both = turn_last c.loop-left.invariant c.loop-left-test.false in
    record { value = both.0; out_after = both.1 }
