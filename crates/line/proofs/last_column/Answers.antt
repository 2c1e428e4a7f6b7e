-- Each call lays the next piece of the line.
-- Assumes nothing.
use Rattle.buffer.proofs.Laying.{start}
use Rattle.text.specs.Text.{text, decimal}
use Rattle.line.specs.Lines.{last_column}
use Rattle.text.proofs.Writing.{wrote, ended}
use Rattle.line.proofs.last_column.Goals as goal

pub returns : goal.returns
returns c =
    let put = c.put-space in
    let decimal' = c.decimal-end in
    let put2 = c.put in
    let l0 = start _ (last_column c.args.n) _ c.requires in
    let l1 = wrote (text " ") _ l0 (put.ensures.value, put.ensures.dst_after) in
    let l2 = wrote (decimal c.args.n) _ l1 (decimal'.ensures.value, decimal'.ensures.dst_after) in
    let both = ended _ l2 (put2.ensures.value, put2.ensures.dst_after) in
    record { value = both.0; dst_after = both.1 }
