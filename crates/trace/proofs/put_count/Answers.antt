-- Each call lays the next piece of the line.
-- Assumes nothing.
use Rattle.buffer.proofs.Laying.{start, fits}
use Rattle.text.specs.Text.{decimal}
use Rattle.text.proofs.Writing.{wrote, last_fits, ended}
use Rattle.trace.specs.Traces.{count_line}
use Rattle.trace.proofs.put_count.Goals as goal

pub put-named-requires : goal.put-named-requires
unfolding count_line
put-named-requires c =
    let l0 = start c.args.from (count_line c.args.name.now c.args.n) c.args.dst.now c.requires in
    fits c.args.name.now _ l0

pub decimal-number-requires : goal.decimal-number-requires
unfolding count_line
decimal-number-requires c =
    let put = c.put-named in
    let l0 = start c.args.from (count_line c.args.name.now c.args.n) c.args.dst.now c.requires in
    let l1 = wrote c.args.name.now _ l0 (put.ensures.value, put.ensures.dst_after) in
    fits (decimal c.args.n) _ l1

pub put-requires : goal.put-requires
unfolding count_line
put-requires c =
    let put = c.put-named in
    let decimal' = c.decimal-number in
    let l0 = start c.args.from (count_line c.args.name.now c.args.n) c.args.dst.now c.requires in
    let l1 = wrote c.args.name.now _ l0 (put.ensures.value, put.ensures.dst_after) in
    let l2 = wrote (decimal c.args.n) _ l1 (decimal'.ensures.value, decimal'.ensures.dst_after) in
    last_fits l2

pub returns : goal.returns
unfolding count_line
returns c =
    let put = c.put-named in
    let decimal' = c.decimal-number in
    let put2 = c.put in
    let l0 = start c.args.from (count_line c.args.name.now c.args.n) c.args.dst.now c.requires in
    let l1 = wrote c.args.name.now _ l0 (put.ensures.value, put.ensures.dst_after) in
    let l2 = wrote (decimal c.args.n) _ l1 (decimal'.ensures.value, decimal'.ensures.dst_after) in
    let both = ended _ l2 (put2.ensures.value, put2.ensures.dst_after) in
    record { value = both.0; dst_after = both.1 }
