-- Field by field: what the calls promised, and a column of one byte for each byte read.
-- Assumes nothing.
use mathlib.Core.Path.{ap, ◌∙◌}
use native.Mathlib.Omega.{arith}
use mir.Facts.{to_z-of_z}
use mir.Syntax.{w8}
use Rattle.scalar.specs.Scalars.{sign8, signed}
use Rattle.scalar.proofs.Laws.{get-byte}
use Rattle.modulation.specs.Lora.{lora_of}
use Rattle.modulation.proofs.lora_of.Goals as goal

pub returns : goal.returns
unfolding lora_of
returns c =
    let u32-at = c.u32_at-freq_hz in
    let u16-at = c.u16_at-preamble_len in
    let u16-at2 = c.u16_at-sync_word in
    let i8-of = c.i8_of-tx_power_dbm in
    let p = c.args.params.now in
    λ i. record {
      freq_hz = u32-at.ensures i;
      sf = get-byte 4 p (omega arith) i;
      bw = get-byte 5 p (omega arith) i;
      cr = get-byte 6 p (omega arith) i;
      preamble_len = u16-at.ensures i;
      sync_word = u16-at2.ensures i;
      tx_power_dbm = (to_z-of_z {w = w8} record { sfits = i8-of.type_inv } ∙ i8-of.ensures ∙ ap (signed sign8) (get-byte 11 p (omega arith))) i;
      header_mode = get-byte 12 p (omega arith) i;
      payload_crc = get-byte 13 p (omega arith) i;
      iq_invert = get-byte 14 p (omega arith) i;
    }
