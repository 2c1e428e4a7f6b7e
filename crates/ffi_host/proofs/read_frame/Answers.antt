-- What was opened, field by field.
-- Assumes nothing.
use mathlib.Core.Path.{sym, ap, ◌∙◌}
use Rattle.frame.specs.Reading.{opened_result}
use Rattle.ffi_host.specs.Reports.{message_report}
use Rattle.ffi_host.proofs.read_frame.Goals as goal

pub returns-in-Body : goal.returns-in-Body
unfolding message_report
returns-in-Body c =
    let did = c.«open».ensures in
    record { value = ap message_report (sym (ap opened_result c.in-Body.is) ∙ did.result_value); body_after = did.dst_after }

pub returns-in-Refused : goal.returns-in-Refused
unfolding message_report
returns-in-Refused c =
    let did = c.«open».ensures in
    record { value = rw c.refusal_number.ensures (ap message_report (sym (ap opened_result c.in-Refused.is) ∙ did.result_value)); body_after = did.dst_after }
