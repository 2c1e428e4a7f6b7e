-- Field by field: what the calls promised, and a column of one byte for each byte read.
-- Assumes nothing.
use mathlib.Core.Path.{ap, ◌∙◌}
use native.Mathlib.Omega.{arith}
use mir.Facts.{to_z-of_z}
use mir.Syntax.{w16, w32}
use Rattle.scalar.specs.Scalars.{sign16, sign32, signed}
use Rattle.scalar.proofs.Laws.{get-byte}
use Rattle.rx.specs.Rx.{rx_of}
use Rattle.rx.proofs.rx_of.Goals as goal

pub returns : goal.returns
unfolding rx_of
returns c =
    let u16-at = c.u16_at in
    let i16-of = c.i16_of-rssi in
    let u16-at2 = c.u16_at-2 in
    let i16-of2 = c.i16_of-snr in
    let u32-at = c.u32_at in
    let i32-of = c.i32_of-freq_err in
    let u64-at = c.u64_at-timestamp_us in
    let u16-at3 = c.u16_at-packets_dropped in
    let p = c.args.payload.now in
    let rssi = i16-of in
    let snr = i16-of2 in
    let error = i32-of in
    λ i.
    record {
      rssi = (to_z-of_z {w = w16} record { sfits = rssi.type_inv } ∙ rssi.ensures ∙ ap (signed sign16) u16-at.ensures) i;
      snr = (to_z-of_z {w = w16} record { sfits = snr.type_inv } ∙ snr.ensures ∙ ap (signed sign16) u16-at2.ensures) i;
      freq_err = (to_z-of_z {w = w32} record { sfits = error.type_inv } ∙ error.ensures ∙ ap (signed sign32) u32-at.ensures) i;
      timestamp_us = u64-at.ensures i;
      crc_valid = get-byte 16 p (omega arith) i;
      packets_dropped = u16-at3.ensures i;
      origin = get-byte 19 p (omega arith) i;
    }
