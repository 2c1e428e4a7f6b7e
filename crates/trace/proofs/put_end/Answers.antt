-- Each call lays the next piece of the line.
-- Assumes nothing.
use Rattle.buffer.proofs.Laying.{start}
use Rattle.text.specs.Text.{text}
use Rattle.text.proofs.Writing.{wrote, ended}
use Rattle.trace.specs.Traces.{bytes_text, line_end}
use Rattle.trace.proofs.put_end.Goals as goal

pub returns : goal.returns
returns c =
    let put = c.put-space in
    let put-bytes = c.put_bytes-end in
    let put2 = c.put in
    let s = c.args in
    let l0 = start s.from (line_end s.bytes.now) s.dst.now c.requires in
    let l1 = wrote (text " ") _ l0 (put.ensures.value, put.ensures.dst_after) in
    let l2 = wrote (bytes_text s.bytes.now) _ l1 (put-bytes.ensures.value, put-bytes.ensures.dst_after) in
    let both = ended _ l2 (put2.ensures.value, put2.ensures.dst_after) in
    record { value = both.0; dst_after = both.1 }
