-- What the calls promised, of each number its first bytes; a byte modulo 256 is itself. Byte by byte, since `rw` would compute all the bytes at every step.
-- Assumes nothing.
use mathlib.Core.Path.{sym, ap, ◌∙◌}
use mathlib.Core.List.{[], ◌∷◌}
use native.Mathlib.Nat.{mod-eq_of_lt}
use native.Mathlib.Omega.{arith}
use lib.ListN.{get_or}
use mir.Facts.{to_z-of_z}
use mir.Syntax.{w8}
use Rattle.buffer.specs.Lay.{lay}
use Rattle.scalar.specs.Scalars.{le, sign8, unsigned}
use Rattle.scalar.proofs.Laws.{unsigned-below}
use Rattle.modulation.specs.Lora.{lora_bytes}
use Rattle.modulation.specs.Ranges.{LoraIn}
use Rattle.modulation.proofs.lora_bytes.Goals as goal

pub returns : goal.returns
unfolding lora_bytes lay le
returns c =
    let bytes-of-u64 = c.bytes_of_u64-freq in
    let bytes-of-u642 = c.bytes_of_u64-preamble in
    let bytes-of-u643 = c.bytes_of_u64-word in
    let r : LoraIn c.args.m = omega (arith, c.well_formed) in
    let freq = bytes-of-u64.ensures in
    let preamble = bytes-of-u642.ensures in
    let word = bytes-of-u643.ensures in
    let e = mod-eq_of_lt (unsigned-below sign8 _ r.tx_power_dbm) in
    let power = c.u8_of-power.ensures ∙ ap (unsigned sign8) (to_z-of_z {w = w8} record { sfits = r.tx_power_dbm }) ∙ sym e in
    λ i.
    get_or (freq i) 0 0 ∷ get_or (freq i) 1 0 ∷ get_or (freq i) 2 0 ∷ get_or (freq i) 3 0
    ∷ sym (mod-eq_of_lt r.sf) i
    ∷ sym (mod-eq_of_lt r.bw) i
    ∷ sym (mod-eq_of_lt r.cr) i
    ∷ get_or (preamble i) 0 0 ∷ get_or (preamble i) 1 0
    ∷ get_or (word i) 0 0 ∷ get_or (word i) 1 0
    ∷ power i
    ∷ sym (mod-eq_of_lt r.header_mode) i
    ∷ sym (mod-eq_of_lt r.payload_crc) i
    ∷ sym (mod-eq_of_lt r.iq_invert) i
    ∷ []
