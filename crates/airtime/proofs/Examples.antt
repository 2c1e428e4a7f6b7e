-- The formula, computed: the figures of 02 §3, and where each refusal begins.
-- Assumes nothing.
use mathlib.Core.Path.{◌≡◌, refl}
use Prim.Native.Nat.{ℕ}
use Rattle.status.specs.Numbers.{AIR, WIDE}
use Rattle.status.specs.Result.{took, refused_with}
use Rattle.board.specs.Ldro.{slow}
use Rattle.airtime.specs.declared.Transmission.{Transmission}
use Rattle.airtime.specs.Airtime.{payload_term, divisor, divided_up, payload_symbols, quarter_symbols, microseconds, outside, airtime}

-- everything that has to compute
unfoldable pub computes : Unit {0}
unfolding payload_term divisor divided_up payload_symbols quarter_symbols microseconds outside airtime slow
computes = tt

-- by its fields, in their order: SF, bandwidth, coding rate, header, CRC, preamble, length
abbrev of : ℕ → ℕ → ℕ → ℕ → ℕ → ℕ → ℕ → Transmission
of sf bw cr header crc preamble len =
    record { sf = sf; bw = bw; cr = cr; header_mode = header; payload_crc = crc; preamble_len = preamble; len = len }

-- 02 §3's two figures. The first is P C.2.4's too; in the second the payload term is -32, and counts as zero.
pub figures : (airtime (of 7 7 0 0 1 8 5) ≡ took 30976) × (airtime (of 12 7 0 1 0 8 1) ≡ took 663552)
unfolding computes
figures = (refl, refl)

-- k at 125 kHz and 4/5, where a block has five symbols: by SF, header, CRC and length. Six lengths that fill the last block, and six that
-- just begin it, so that another number in the payload term would show. With SF 12 LDRO is on, and no length comes nearer than 4 bits.
abbrev k : ℕ → ℕ → ℕ → ℕ → ℕ
k sf header crc len = payload_symbols (of sf 7 0 header crc 8 len)

pub filled : (k 7 0 1 5 ≡ 10) × (k 7 0 0 7 ≡ 10) × (k 7 1 1 4 ≡ 5) × (k 7 1 0 6 ≡ 5) × (k 9 0 1 8 ≡ 10) × (k 12 0 1 5 ≡ 5)
unfolding computes
filled = (refl, refl, refl, refl, refl, refl)

pub begun : (k 7 0 1 2 ≡ 10) × (k 7 0 0 4 ≡ 10) × (k 7 1 1 8 ≡ 15) × (k 7 1 0 10 ≡ 15) × (k 9 0 1 4 ≡ 10) × (k 12 0 1 6 ≡ 10)
unfolding computes
begun = (refl, refl, refl, refl, refl, refl)

-- P C.2.5 prints 33,792 for these six bytes
pub six-bytes : airtime (of 7 7 0 0 1 8 6) ≡ took 36096
unfolding computes
six-bytes = refl

-- the longest preamble of the slowest packet, and one symbol more
pub widest : (airtime (of 12 0 3 0 1 7769 255) ≡ took 4294899871) × (airtime (of 12 0 3 0 1 7770 255) ≡ refused_with WIDE)
unfolding computes
widest = (refl, refl)

-- no bytes are taken, and no preamble; 255 bytes at the most
pub lengths : (airtime (of 7 9 0 0 0 0 0) ≡ took 3136) × (airtime (of 7 7 0 0 1 8 255) ≡ took 399616) × (airtime (of 7 7 0 0 1 8 256) ≡ refused_with AIR)
unfolding computes
lengths = (refl, refl, refl)

-- SF 5 and 6, which the board takes, and SF 13; bandwidth 10; AIR before WIDE
pub refusals : (airtime (of 6 7 0 0 1 8 5) ≡ refused_with AIR) × (airtime (of 13 7 0 0 1 8 5) ≡ refused_with AIR)
    × (airtime (of 7 10 0 0 1 8 5) ≡ refused_with AIR) × (airtime (of 12 0 4 0 1 65535 255) ≡ refused_with AIR)
unfolding computes
refusals = (refl, refl, refl, refl)
