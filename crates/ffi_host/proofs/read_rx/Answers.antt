-- What was received, and what its payload says: a message of this type has its fields.
-- Assumes nothing.
use mathlib.Core.Path.{sym, ap, ◌∙◌}
use native.Mathlib.Omega.{arith}
use lib.ListN.{length, length-take, length-drop}
use Rattle.status.specs.Result.{Result}
use Rattle.cobs.specs.Decoding.{decoded}
use Rattle.scalar.specs.Scalars.{number, signed}
use Rattle.frame.specs.Reading.{Head, opened_result}
use Rattle.frame.proofs.Laws.{opens-facts}
use Rattle.rx.specs.Rx.{rx_of}
use Rattle.wellformed.specs.declared.Kinds.TheVariants as K
use Rattle.reader.proofs.Steps.{received, was-open, payload-there}
use Rattle.reader.proofs.Kept.{rx-kept}
use Rattle.ffi_host.specs.Reports.{rx_report, rx_fields}
use Rattle.ffi_host.proofs.read_rx.Goals as goal

pub overflow_add-len : goal.overflow_add-len
overflow_add-len c =
    let s = c.args in
    let w = c.receive in
    let e = received K.Rx s.run.now s.body.now w.ensures.result_value c.in-Body.is in
    let o = opens-facts s.run.now (length s.body.now) (was-open K.Rx s.run.now s.body.now e) in
    omega (arith, o.most)

pub slice_bounds-rx_report-end : goal.slice_bounds-rx_report-end
slice_bounds-rx_report-end c =
    let s = c.args in
    let w = c.receive in
    let e = received K.Rx s.run.now s.body.now w.ensures.result_value c.in-Body.is in
    let o = opens-facts s.run.now (length s.body.now) (was-open K.Rx s.run.now s.body.now e) in
    omega (arith, o.long, o.inside, o.fits, w.auto.dst)

pub rx_report-requires : goal.rx_report-requires
rx_report-requires c =
    let s = c.args in
    let w = c.receive in
    let e = received K.Rx s.run.now s.body.now w.ensures.result_value c.in-Body.is in
    let o = opens-facts s.run.now (length s.body.now) (was-open K.Rx s.run.now s.body.now e) in
    let h = rx-kept s.run.now s.body.now e in
    rw (length-take, length-drop) (omega (arith, o.long, o.inside, o.fits, w.auto.dst))

pub returns-in-Body : goal.returns-in-Body
unfolding rx_report
returns-in-Body c =
    let s = c.args in
    let w = c.receive in
    let e = received K.Rx s.run.now s.body.now w.ensures.result_value c.in-Body.is in
    let o = opens-facts s.run.now (length s.body.now) (was-open K.Rx s.run.now s.body.now e) in
    let p = payload-there K.Rx s.run.now s.body.now e in
    record { value = rw e (rw (w.ensures.dst_after, p) at c.rx_report.ensures); body_after = w.ensures.dst_after }

pub returns-in-Refused : goal.returns-in-Refused
unfolding rx_report rx_fields rx_of number signed
returns-in-Refused c =
    let receive = c.receive in
    let b = decoded c.args.run.now in
    let w = receive.ensures in
    record {
      value = rw c.refusal_number.ensures (ap (λ (x : Result Head). rx_report x b) (sym (ap opened_result c.in-Refused.is) ∙ w.result_value));
      body_after = w.dst_after;
    }
