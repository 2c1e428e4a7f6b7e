-- Field by field.
-- Assumes nothing.
use native.Mathlib.Omega.{arith}
use Rattle.status.specs.Numbers.{TAKEN}
use Rattle.scalar.proofs.Laws.{get-byte}
use Rattle.ffi_host.specs.Reports.{tx_done_fields}
use Rattle.ffi_host.proofs.tx_done_report.Goals as goal

pub returns : goal.returns
unfolding tx_done_fields
returns c =
    let u32-at = c.u32_at-airtime_us in
    let p = c.args.payload.now in
    λ i. record { number = TAKEN; tag = c.args.tag; result = get-byte 0 p (omega (arith, c.requires)) i; airtime_us = u32-at.ensures i }
