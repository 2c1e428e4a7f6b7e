-- By what checking the message gives.
-- Assumes nothing.
use mathlib.Core.Path.{sym, ap, ◌∙◌}
use Rattle.frame.specs.Writing.{written_result}
use Rattle.wellformed.proofs.Laws.{checked-same}
use Rattle.writer.proofs.Steps.{no_body, as-body}
use Rattle.writer.proofs.build.Goals as goal

pub returns-in-Good : goal.returns-in-Good
returns-in-Good c =
    let s = c.args in
    let fits-written = c.fits_written-fits in
    let check = c.check in
    let build = c.build in
    let f = fits-written.ensures in
    let q = rw (f) at check.ensures in
    let j = sym (checked-same _ _ q) ∙ c.in-Good.is in
    let a = as-body s.kinds s.kind s.tag s.payload.now s.dst.now j in
    record { result_value = build.ensures.result_value ∙ ap written_result (sym a.0); dst_after = build.ensures.dst_after ∙ sym a.1 }

pub returns-in-Refused : goal.returns-in-Refused
returns-in-Refused c =
    let s = c.args in
    let fits-written = c.fits_written-fits in
    let check = c.check in
    let f = fits-written.ensures in
    let q = rw (f) at check.ensures in
    let j = sym (checked-same _ _ q) ∙ c.in-Refused.is in
    let a = no_body s.kinds s.kind s.tag s.payload.now s.dst.now j in
    record { result_value = ap written_result (sym a.0); dst_after = sym a.1 }
