-- What was received, and its payload as a part of the memory that it stands in.
-- Assumes nothing.
use mathlib.Core.Path.{refl}
use native.Mathlib.Omega.{arith}
use lib.ListN.{length}
use Rattle.frame.proofs.Laws.{opens-facts}
use Rattle.reader.proofs.Steps.{received, was-open, payload-there}
use Rattle.reader.proofs.read.Goals as goal

pub overflow_add-result : goal.overflow_add-result
overflow_add-result c =
    let s = c.args in
    let w = c.receive in
    let e = received s.kinds s.run.now s.dst.now w.ensures.result_value c.in-Body.is in
    let o = opens-facts s.run.now (length s.dst.now) (was-open s.kinds s.run.now s.dst.now e) in
    omega (arith, o.most)

pub slice_bounds-dst-end : goal.slice_bounds-dst-end
slice_bounds-dst-end c =
    let s = c.args in
    let w = c.receive in
    let e = received s.kinds s.run.now s.dst.now w.ensures.result_value c.in-Body.is in
    let o = opens-facts s.run.now (length s.dst.now) (was-open s.kinds s.run.now s.dst.now e) in
    omega (arith, o.long, o.inside, o.fits, w.auto.dst)

pub returns-in-Body : goal.returns-in-Body
returns-in-Body c =
    let s = c.args in
    let w = c.receive in
    let e = received s.kinds s.run.now s.dst.now w.ensures.result_value c.in-Body.is in
    record {
      result_value = rw e (rw w.ensures.dst_after (payload-there s.kinds s.run.now s.dst.now e));
      number_after = rw e (refl);
      kind_after = rw e
          (refl);
      tag_after = rw e (refl);
    }
