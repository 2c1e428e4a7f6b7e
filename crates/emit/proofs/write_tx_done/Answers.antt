-- The payload of a TX_DONE is as crate payload writes it.
-- Assumes nothing.
use mathlib.Core.List.{append-nil}
use Rattle.answer.specs.Answers.{answer_bytes}
use Rattle.emit.proofs.write_tx_done.Goals as goal

pub returns : goal.returns
unfolding answer_bytes
returns c =
    let tx-done-bytes = c.tx_done_bytes-payload in
    let write = c.write in
    rw append-nil (rw tx-done-bytes.ensures at write.ensures)
