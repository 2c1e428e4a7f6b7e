-- Field by field. A signed field is read from its bits, which it fits.
-- Assumes nothing.
use mathlib.Core.Path.{ap, ◌∙◌}
use Prim.Native.Nat.{◌-◌, ◌<◌}
use native.Mathlib.Omega.{arith}
use lib.ListN.{length}
use lib.Signed.{mag}
use mir.Facts.{to_z-of_z}
use mir.Syntax.{w16, w32}
use Rattle.status.specs.Numbers.{TAKEN}
use Rattle.scalar.specs.Scalars.{sign16, sign32}
use Rattle.rx.specs.Rx.{rx_size}
use Rattle.rx.specs.declared.Rx.{Rx}
use Rattle.ffi_host.specs.Reports.{rx_fields}
use Rattle.ffi_host.proofs.rx_report.Goals as goal

pub returns : goal.returns
unfolding rx_fields
returns c =
    let w = c.rx_of-m in
    let p = c.args.payload.now in
    let e = w.ensures in
    let f = w.type_inv in
    let a : mag w.result.rssi < sign16 = omega arith in
    let b : mag w.result.snr < sign16 = omega arith in
    let d : mag w.result.freq_err < sign32 = omega arith in
    λ i. record {
      number = TAKEN;
      rssi = (to_z-of_z {w = w16} record { sfits = a } ∙ ap (λ (m : Rx). m.rssi) e) i;
      snr = (to_z-of_z {w = w16} record { sfits = b } ∙ ap (λ (m : Rx). m.snr) e) i;
      freq_err = (to_z-of_z {w = w32} record { sfits = d } ∙ ap (λ (m : Rx). m.freq_err) e) i;
      timestamp_us = (e i).timestamp_us;
      crc_valid = (e i).crc_valid;
      packets_dropped = (e i).packets_dropped;
      origin = (e i).origin;
      packet_len = length p - rx_size;
    }
