-- Field by field: what the calls promised, and a column of one byte for each byte read.
-- Assumes nothing.
use native.Mathlib.Omega.{arith}
use Rattle.scalar.proofs.Laws.{get-byte}
use Rattle.modulation.specs.Fsk.{fsk_of}
use Rattle.modulation.proofs.fsk_of.Goals as goal

pub returns : goal.returns
unfolding fsk_of
returns c =
    let u32-at = c.u32_at-freq_hz in
    let u32-at2 = c.u32_at-bitrate_bps in
    let u32-at3 = c.u32_at-freq_dev_hz in
    let u16-at = c.u16_at-preamble_len in
    let p = c.args.params.now in
    λ i. record {
      freq_hz = u32-at.ensures i;
      bitrate_bps = u32-at2.ensures i;
      freq_dev_hz = u32-at3.ensures i;
      rx_bw = get-byte 12 p (omega arith) i;
      preamble_len = u16-at.ensures i;
      sync_word_len = get-byte 15 p (omega arith) i;
    }
