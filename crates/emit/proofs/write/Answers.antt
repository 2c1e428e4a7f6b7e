-- There is room, so the frame is written and not refused; what is written to a part of the output is laid on the whole.
-- Assumes nothing.
use native.Mathlib.Omega.{arith}
use Rattle.emit.proofs.Laws.{length-bytes, long, frame-written, not-refused}
use Rattle.emit.proofs.write.Goals as goal

pub overflow_add-result : goal.overflow_add-result
overflow_add-result c =
    let write = c.write in
    let a = c.args in
    let e = long a.kind a.tag a.payload.now a.at a.out.now c.requires.payload_len_bound c.requires.overhead_in_bounds write.ensures.result_value c.in-Done.is in
    omega (arith, e, c.requires.overhead_in_bounds, c.well_formed, length-bytes a.kind a.tag a.payload.now)

pub returns-in-Done : goal.returns-in-Done
returns-in-Done c =
    let write = c.write in
    let a = c.args in
    frame-written a.kind a.tag a.payload.now a.at a.out.now
    c.requires.payload_len_bound c.requires.overhead_in_bounds write.ensures.result_value c.in-Done.is write.ensures.dst_after

pub returns-in-Refused : goal.returns-in-Refused
returns-in-Refused c =
    let write = c.write in
    let a = c.args in
    absurd (not-refused a.kind a.tag a.payload.now a.at a.out.now c.requires.payload_len_bound c.requires.overhead_in_bounds write.ensures.result_value
    c.in-Refused.is)
