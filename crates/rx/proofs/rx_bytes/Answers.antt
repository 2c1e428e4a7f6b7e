-- Byte by byte: what the calls promised, of each number its first bytes; and a byte modulo 256 is itself.
-- Assumes nothing.
use mathlib.Core.Path.{sym, ap, ◌∙◌}
use mathlib.Core.List.{[], ◌∷◌}
use native.Mathlib.Nat.{mod-eq_of_lt}
use native.Mathlib.Omega.{arith}
use mir.Facts.{to_z-of_z}
use mir.Syntax.{w16, w32}
use lib.ListN.{get_or}
use Rattle.buffer.specs.Lay.{lay}
use Rattle.scalar.specs.Scalars.{le, sign16, sign32, unsigned}
use Rattle.rx.specs.Rx.{rx_bytes}
use Rattle.rx.proofs.rx_bytes.Goals as goal

pub returns : goal.returns
unfolding rx_bytes lay le
returns c =
    let u16-of = c.u16_of in
    let bytes-of-u64 = c.bytes_of_u64-rssi in
    let u16-of2 = c.u16_of-2 in
    let bytes-of-u642 = c.bytes_of_u64-snr in
    let u32-of = c.u32_of in
    let bytes-of-u643 = c.bytes_of_u64-error in
    let bytes-of-u644 = c.bytes_of_u64-time in
    let m = c.args.m in
    let good = c.well_formed in
    let rssi-held = to_z-of_z {w = w16} {z = m.rssi} record { sfits = omega (arith, good) } in
    let snr-held = to_z-of_z {w = w16} {z = m.snr} record { sfits = omega (arith, good) } in
    let error-held = to_z-of_z {w = w32} {z = m.freq_err} record { sfits = omega (arith, good) } in
    let rssi = bytes-of-u64.ensures ∙ ap (le 8) (u16-of.ensures ∙ ap (unsigned sign16) rssi-held) in
    let snr = bytes-of-u642.ensures ∙ ap (le 8) (u16-of2.ensures ∙ ap (unsigned sign16) snr-held) in
    let error = bytes-of-u643.ensures ∙ ap (le 8) (u32-of.ensures ∙ ap (unsigned sign32) error-held) in
    let time = bytes-of-u644.ensures in
    let lost = c.bytes_of_u64-lost.ensures in
    let valid = sym (mod-eq_of_lt {n = m.crc_valid} {m = 256} (omega (arith, good))) in
    let origin = sym (mod-eq_of_lt {n = m.origin} {m = 256} (omega (arith, good))) in
    λ i.
    get_or (rssi i) 0 0 ∷ get_or (rssi i) 1 0
    ∷ get_or (snr i) 0 0 ∷ get_or (snr i) 1 0
    ∷ get_or (error i) 0 0 ∷ get_or (error i) 1 0 ∷ get_or (error i) 2 0 ∷ get_or (error i) 3 0
    ∷ get_or (time i) 0 0 ∷ get_or (time i) 1 0 ∷ get_or (time i) 2 0 ∷ get_or (time i) 3 0
    ∷ get_or (time i) 4 0 ∷ get_or (time i) 5 0 ∷ get_or (time i) 6 0 ∷ get_or (time i) 7 0
    ∷ valid i ∷ get_or (lost i) 0 0 ∷ get_or (lost i) 1 0 ∷ origin i ∷ []
