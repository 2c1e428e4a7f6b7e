-- What the calls promised, of each number its first bytes; a byte modulo 256 is itself. Byte by byte, since `rw` would compute all the bytes at every step.
-- Assumes nothing.
use mathlib.Core.Path.{sym}
use mathlib.Core.List.{[], ◌∷◌}
use native.Mathlib.Nat.{mod-eq_of_lt}
use native.Mathlib.Omega.{arith}
use lib.ListN.{get_or}
use Rattle.buffer.specs.Lay.{lay}
use Rattle.scalar.specs.Scalars.{le}
use Rattle.modulation.specs.Fsk.{fsk_bytes}
use Rattle.modulation.specs.Ranges.{FskIn}
use Rattle.modulation.proofs.fsk_bytes.Goals as goal

pub returns : goal.returns
unfolding fsk_bytes lay le
returns c =
    let bytes-of-u64 = c.bytes_of_u64-freq in
    let bytes-of-u642 = c.bytes_of_u64-bitrate in
    let bytes-of-u643 = c.bytes_of_u64-deviation in
    let r : FskIn c.args.m = omega (arith, c.well_formed) in
    let freq = bytes-of-u64.ensures in
    let bitrate = bytes-of-u642.ensures in
    let deviation = bytes-of-u643.ensures in
    let preamble = c.bytes_of_u64-preamble.ensures in
    λ i.
    get_or (freq i) 0 0 ∷ get_or (freq i) 1 0 ∷ get_or (freq i) 2 0 ∷ get_or (freq i) 3 0
    ∷ get_or (bitrate i) 0 0 ∷ get_or (bitrate i) 1 0 ∷ get_or (bitrate i) 2 0 ∷ get_or (bitrate i) 3 0
    ∷ get_or (deviation i) 0 0 ∷ get_or (deviation i) 1 0 ∷ get_or (deviation i) 2 0 ∷ get_or (deviation i) 3 0
    ∷ sym (mod-eq_of_lt r.rx_bw) i
    ∷ get_or (preamble i) 0 0 ∷ get_or (preamble i) 1 0
    ∷ sym (mod-eq_of_lt r.sync_word_len) i
    ∷ []
