-- By the case that the match found: each writes the bytes that the definition has for it.
-- Assumes nothing.
use mathlib.Core.Path.{refl}
use native.Mathlib.Nat.{zero-add}
use Rattle.buffer.specs.Lay.{lay}
use Rattle.scalar.specs.Scalars.{le}
use Rattle.answer.specs.Answers.{answer_bytes}
use Rattle.payload.proofs.put_answer.Goals as goal

pub copy-requires : goal.copy-requires
unfolding answer_bytes
copy-requires c =
    rw zero-add (rw c.in-Ok.is at c.requires)

pub put_info-requires : goal.put_info-requires
unfolding answer_bytes
put_info-requires c =
    rw c.in-Info.is at c.requires

pub put_configured-requires : goal.put_configured-requires
unfolding answer_bytes
put_configured-requires c =
    rw c.in-Configured.is at c.requires

pub put_parts-requires : goal.put_parts-requires
unfolding answer_bytes lay le
put_parts-requires c =
    let bytes-of-u16 = c.bytes_of_u16-head in
    rw bytes-of-u16.ensures (rw c.in-Err.is at c.requires)

pub put_parts-requires-in-Rx : goal.put_parts-requires-in-Rx
unfolding answer_bytes
put_parts-requires-in-Rx c =
    let rx-bytes = c.rx_bytes-head in
    rw rx-bytes.ensures (rw c.in-Rx.is at c.requires)

pub put_parts-requires-in-TxDone : goal.put_parts-requires-in-TxDone
unfolding answer_bytes
put_parts-requires-in-TxDone c =
    let tx-done-bytes = c.tx_done_bytes-head in
    rw tx-done-bytes.ensures (rw c.in-TxDone.is at c.requires)

pub returns-in-Ok : goal.returns-in-Ok
unfolding answer_bytes
returns-in-Ok c =
    let copy = c.copy in
    record { value = rw c.in-Ok.is (refl); dst_after = rw c.in-Ok.is (copy.ensures) }

pub returns-in-Info : goal.returns-in-Info
unfolding answer_bytes
returns-in-Info c =
    let put-info = c.put_info in
    record { value = rw c.in-Info.is put-info.ensures.value; dst_after = rw c.in-Info.is put-info.ensures.dst_after }

pub returns-in-Configured : goal.returns-in-Configured
unfolding answer_bytes
returns-in-Configured c =
    let put-configured = c.put_configured in
    record { value = rw c.in-Configured.is put-configured.ensures.value; dst_after = rw c.in-Configured.is put-configured.ensures.dst_after }

pub returns-in-Err : goal.returns-in-Err
unfolding answer_bytes lay le
returns-in-Err c =
    let bytes-of-u16 = c.bytes_of_u16-head in
    let put-parts = c.put_parts in
    record {
      value = rw c.in-Err.is (rw bytes-of-u16.ensures at put-parts.ensures.value);
      dst_after = rw c.in-Err.is
          (rw bytes-of-u16.ensures at put-parts.ensures.dst_after);
    }

pub returns-in-Rx : goal.returns-in-Rx
unfolding answer_bytes
returns-in-Rx c =
    let rx-bytes = c.rx_bytes-head in
    let put-parts2 = c.put_parts-in-Rx in
    record {
      value = rw (c.in-Rx.is, ← rx-bytes.ensures) put-parts2.ensures.value;
      dst_after = rw (c.in-Rx.is, ← rx-bytes.ensures)
          put-parts2.ensures.dst_after;
    }

pub returns-in-TxDone : goal.returns-in-TxDone
unfolding answer_bytes
returns-in-TxDone c =
    let tx-done-bytes = c.tx_done_bytes-head in
    let put-parts3 = c.put_parts-in-TxDone in
    record {
      value = rw (c.in-TxDone.is, ← tx-done-bytes.ensures) put-parts3.ensures.value;
      dst_after = rw (c.in-TxDone.is, ← tx-done-bytes.ensures)
          put-parts3.ensures.dst_after;
    }
