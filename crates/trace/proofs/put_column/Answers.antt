-- Each call lays the next piece of the column.
-- Assumes nothing.
use Rattle.buffer.proofs.Laying.{start, fits}
use Rattle.text.specs.Text.{decimal}
use Rattle.text.proofs.Writing.{wrote, last_fits, ended}
use Rattle.trace.specs.Traces.{number_column}
use Rattle.trace.proofs.put_column.Goals as goal

pub decimal-end-requires : goal.decimal-end-requires
unfolding number_column
decimal-end-requires c =
    let l0 = start c.args.from (number_column c.args.n) c.args.dst.now c.requires in
    fits (decimal c.args.n) _ l0

pub put-requires : goal.put-requires
unfolding number_column
put-requires c =
    let decimal' = c.decimal-end in
    let l0 = start c.args.from (number_column c.args.n) c.args.dst.now c.requires in
    let l1 = wrote (decimal c.args.n) _ l0 (decimal'.ensures.value, decimal'.ensures.dst_after) in
    last_fits l1

pub returns : goal.returns
unfolding number_column
returns c =
    let decimal' = c.decimal-end in
    let put = c.put in
    let l0 = start c.args.from (number_column c.args.n) c.args.dst.now c.requires in
    let l1 = wrote (decimal c.args.n) _ l0 (decimal'.ensures.value, decimal'.ensures.dst_after) in
    let both = ended _ l1 (put.ensures.value, put.ensures.dst_after) in
    record { value = both.0; dst_after = both.1 }
