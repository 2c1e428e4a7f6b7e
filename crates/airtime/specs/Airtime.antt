-- Time on air: 02 §3. It is the formula of Semtech's SX1276 data sheet, with the values that P 10.1 has on the wire; bandwidths and LDRO are 01's.
-- Assumes nothing.
use Rattle.std.specs.Prelude.{ℕ, ◌+◌, ◌-◌, ◌*◌, ◌/◌, ◌^◌, Bool, cond, ◌||◌, ltb, ℤ, pos, negsuc, ◌+ℤ◌, ◌-ℤ◌, get_or}
use Rattle.status.specs.Numbers.{AIR, WIDE}
use Rattle.status.specs.Result.{Result, took, refused_with}
use Rattle.board.specs.Ldro.{bandwidths, slow}
use Rattle.airtime.specs.declared.Transmission.{Transmission}
use Rattle.airtime.specs.declared.Duration.{Duration}
use Rattle.airtime.specs.declared.Duration.TheVariants as D

-- The payload term, a signed number: 8 bits for a byte, less 4 for each step of SF, and 28; with a CRC 16 more, with an implicit header 20 less.
unfoldable pub payload_term : Transmission → ℤ
payload_term a = pos (8 * a.len) -ℤ pos (4 * a.sf) +ℤ pos 28 +ℤ pos (16 * a.payload_crc) -ℤ pos (20 * a.header_mode)

-- below zero it is taken as zero
abbrev pub at_least_zero : ℤ → ℕ
at_least_zero (pos n) = n
at_least_zero (negsuc n) = 0

-- A block has 4 SF bits; with LDRO a symbol has two bits less, and a block 4 (SF - 2).
unfoldable pub divisor : ℕ → ℕ → ℕ
divisor sf bw = cond (slow sf bw) (4 * (sf - 2)) (4 * sf)

-- so many blocks of d bits have room for n: the quotient, rounded up
unfoldable pub divided_up : ℕ → ℕ → ℕ
divided_up n d = (n + d - 1) / d

-- A block takes cr + 5 symbols. This is k in 02 §3.
unfoldable pub payload_symbols : Transmission → ℕ
payload_symbols a = divided_up (at_least_zero (payload_term a)) (divisor a.sf a.bw) * (a.cr + 5)

-- The whole in quarters of a symbol: the preamble, 8 symbols, those of the payload, and 4.25 more.
unfoldable pub quarter_symbols : Transmission → ℕ
quarter_symbols a = 4 * (a.preamble_len + 8 + payload_symbols a) + 17

-- In us, rounded down: a symbol is 2^SF chips, a chip takes 1,000,000 us by the bandwidth in Hz, and a quarter of that is 250,000.
unfoldable pub microseconds : Transmission → ℕ
microseconds a = quarter_symbols a * 2 ^ a.sf * 250000 / get_or bandwidths a.bw 0

-- The values that have no time: SF below 7 or over 12, a bandwidth value over 9, cr over 3, header or CRC over 1, more than 255 bytes.
unfoldable pub outside : Transmission → Bool
outside a =
    ltb a.sf 7
    || (ltb 12 a.sf
    || (ltb 9 a.bw
    || (ltb 3 a.cr
    || (ltb 1 a.header_mode
    || (ltb 1 a.payload_crc
    || ltb 255 a.len)))))

-- what comes back: AIR, then WIDE, else the time
unfoldable pub airtime : Transmission → Result ℕ
airtime a =
    cond (outside a) (refused_with AIR)
    (cond (ltb 4294967295 (microseconds a)) (refused_with WIDE)
    (took (microseconds a)))

-- the number and the value of each case of the answer
abbrev pub duration_result : Duration → Result ℕ
duration_result (D.Us n) = took n
duration_result D.Air = refused_with AIR
duration_result D.Wide = refused_with WIDE
