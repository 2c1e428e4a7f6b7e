-- The frame is opened in working memory, its message judged there, and only then copied to the caller's memory.
-- Assumes nothing.
use mathlib.Core.Path.{sym, ap, ◌∙◌}
use native.Mathlib.Nat.{le_refl}
use native.Mathlib.Omega.{arith}
use lib.ListN.{length, length-take}
use lib.Seq.{length-take-le}
use Rattle.frame.specs.Reading.{opened_result}
use Rattle.frame.proofs.Laws.{opens-facts, unpack-body, payload-seen}
use Rattle.wellformed.proofs.Laws.{checked-same}
use Rattle.reader.proofs.Steps.{keeps, refuses, takes}
use Rattle.reader.proofs.receive.Goals as goal

pub returns-in_default : goal.returns-in_default
returns-in_default c =
    let s = c.args in
    let unpack = c.unpack-opened in
    let k = keeps s.kinds s.run.now s.dst.now (sym unpack.ensures.value ∙ c.in_default.is) in
    record { result_value = ap opened_result (c.in_default.is ∙ sym k.0); dst_after = sym k.1 }

pub overflow_add-len : goal.overflow_add-len
overflow_add-len c =
    let s = c.args in
    let w = c.unpack-opened in
    let e = sym w.ensures.value ∙ c.in-Body.is in
    let o = opens-facts s.run.now (length s.dst.now) e in
    omega (arith, o.most)

pub slice_bounds-fits_read-end : goal.slice_bounds-fits_read-end
slice_bounds-fits_read-end c =
    let s = c.args in
    let w = c.unpack-opened in
    let e = sym w.ensures.value ∙ c.in-Body.is in
    let o = opens-facts s.run.now (length s.dst.now) e in
    omega (arith, o.most, w.auto.memory)

pub returns-in-Refused : goal.returns-in-Refused
returns-in-Refused c =
    let s = c.args in
    let w = c.unpack-opened in
    let Fits-read = c.fits_read-fits in
    let check = c.check in
    let e = sym w.ensures.value ∙ c.in-Body.is in
    let o = opens-facts s.run.now (length s.dst.now) e in
    let p = payload-seen s.run.now (length s.dst.now) w.new.memory e w.ensures.memory_after in
    let f = Fits-read.ensures in
    let q = rw (f, p) at check.ensures in
    let j = sym (checked-same _ _ q) ∙ c.in-Refused.is in
    let k = refuses s.kinds s.run.now s.dst.now e j in
    record { result_value = ap opened_result (sym k.0); dst_after = sym k.1 }

pub slice_bounds-memory-end : goal.slice_bounds-memory-end
slice_bounds-memory-end c =
    let s = c.args in
    let w = c.unpack-opened in
    let e = sym w.ensures.value ∙ c.in-Body.is in
    let o = opens-facts s.run.now (length s.dst.now) e in
    rw w.auto.memory (omega (arith, o.most))

pub slice_bounds-copy-end : goal.slice_bounds-copy-end
slice_bounds-copy-end c =
    let s = c.args in
    let w = c.unpack-opened in
    let e = sym w.ensures.value ∙ c.in-Body.is in
    let o = opens-facts s.run.now (length s.dst.now) e in
    sym (length-take-le _ w.new.memory (rw w.auto.memory (omega (arith, o.most))))

pub copy-requires : goal.copy-requires
copy-requires c =
    let s = c.args in
    let w = c.unpack-opened in
    let e = sym w.ensures.value ∙ c.in-Body.is in
    let o = opens-facts s.run.now (length s.dst.now) e in
    rw length-take (omega (arith, o.fits, o.inside, o.long))

pub returns : goal.returns
returns c =
    let s = c.args in
    let w = c.unpack-opened in
    let Fits-read = c.fits_read-fits in
    let check = c.check in
    let copy = c.copy in
    let e = sym w.ensures.value ∙ c.in-Body.is in
    let o = opens-facts s.run.now (length s.dst.now) e in
    let p = payload-seen s.run.now (length s.dst.now) w.new.memory e w.ensures.memory_after in
    let f = Fits-read.ensures in
    let q = rw (f, p) at check.ensures in
    let j = sym (checked-same _ _ q) ∙ c.in_default-check.is in
    let k = takes s.kinds s.run.now s.dst.now e j in
    record { result_value = ap opened_result (sym k.0); dst_after = rw (w.ensures.memory_after, unpack-body _ _ _ e (le_refl 282)) at copy.ensures ∙ sym k.1 }
