-- Each call lays the next piece of the line.
-- Assumes nothing.
use Rattle.buffer.proofs.Laying.{start, fits}
use Rattle.text.proofs.Writing.{wrote, last_fits, ended}
use Rattle.trace.specs.Traces.{order_text, number_column, trace_line}
use Rattle.trace.proofs.put_line.Goals as goal

pub put_column-index-requires : goal.put_column-index-requires
unfolding trace_line
put_column-index-requires c =
    let s = c.args in
    let l0 = start s.from (trace_line s.k s.a s.commands.now s.out.now) s.dst.now c.requires in
    fits (number_column s.k) _ l0

pub put_column-number-requires : goal.put_column-number-requires
unfolding trace_line
put_column-number-requires c =
    let put-column = c.put_column-index in
    let s = c.args in
    let l0 = start s.from (trace_line s.k s.a s.commands.now s.out.now) s.dst.now c.requires in
    let l1 = wrote (number_column s.k) _ l0 (put-column.ensures.value, put-column.ensures.dst_after) in
    fits (number_column s.a.number) _ l1

pub put_order-ordered-requires : goal.put_order-ordered-requires
unfolding trace_line
put_order-ordered-requires c =
    let put-column = c.put_column-index in
    let put-column2 = c.put_column-number in
    let s = c.args in
    let l0 = start s.from (trace_line s.k s.a s.commands.now s.out.now) s.dst.now c.requires in
    let l1 = wrote (number_column s.k) _ l0 (put-column.ensures.value, put-column.ensures.dst_after) in
    let l2 = wrote (number_column s.a.number) _ l1 (put-column2.ensures.value, put-column2.ensures.dst_after) in
    fits (order_text s.a.order s.commands.now) _ l2

pub put_end-requires : goal.put_end-requires
unfolding trace_line
put_end-requires c =
    let put-column = c.put_column-index in
    let put-column2 = c.put_column-number in
    let put_order = c.put_order-ordered in
    let part = c.part in
    let s = c.args in
    let l0 = start s.from (trace_line s.k s.a s.commands.now s.out.now) s.dst.now c.requires in
    let l1 = wrote (number_column s.k) _ l0 (put-column.ensures.value, put-column.ensures.dst_after) in
    let l2 = wrote (number_column s.a.number) _ l1 (put-column2.ensures.value, put-column2.ensures.dst_after) in
    let l3 = wrote (order_text s.a.order s.commands.now) _ l2 (put_order.ensures.value, put_order.ensures.dst_after) in
    rw part.ensures (last_fits l3)

pub returns : goal.returns
unfolding trace_line
returns c =
    let put-column = c.put_column-index in
    let put-column2 = c.put_column-number in
    let put_order = c.put_order-ordered in
    let part = c.part in
    let put-end = c.put_end in
    let s = c.args in
    let l0 = start s.from (trace_line s.k s.a s.commands.now s.out.now) s.dst.now c.requires in
    let l1 = wrote (number_column s.k) _ l0 (put-column.ensures.value, put-column.ensures.dst_after) in
    let l2 = wrote (number_column s.a.number) _ l1 (put-column2.ensures.value, put-column2.ensures.dst_after) in
    let l3 = wrote (order_text s.a.order s.commands.now) _ l2 (put_order.ensures.value, put_order.ensures.dst_after) in
    let both = ended _ l3 (rw part.ensures at put-end.ensures.value, rw part.ensures at put-end.ensures.dst_after) in
    record { value = both.0; dst_after = both.1 }
