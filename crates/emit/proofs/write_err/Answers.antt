-- The payload of an ERR is the code in two bytes.
-- Assumes nothing.
use Rattle.answer.specs.Answers.{answer_bytes}
use Rattle.buffer.specs.Lay.{lay}
use Rattle.scalar.specs.Scalars.{le}
use Rattle.emit.proofs.write_err.Goals as goal

pub returns : goal.returns
unfolding answer_bytes lay le
returns c =
    let bytes-of-u16 = c.bytes_of_u16-payload in
    let write = c.write in
    rw bytes-of-u16.ensures at write.ensures
