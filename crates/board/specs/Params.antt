-- Which parameters a board takes: 01 "A run of bytes becomes a frame", what it says of step 6.
-- Assumes nothing.
use Rattle.std.specs.Prelude.{ℕ, Bool, cond, ◌&&◌, leb, eqb, ℤ, pos, negsuc}
use Rattle.std.specs.Int.Signed.{le_z}
use Rattle.modulation.specs.Fsk.{sync_word_max}
use Rattle.modulation.specs.declared.Lora.{Lora}
use Rattle.modulation.specs.declared.Fsk.{Fsk}
use Rattle.modulation.specs.declared.Modulation.{Modulation}
use Rattle.modulation.specs.declared.Modulation.TheVariants as M
use Rattle.board.specs.Board.{Board, among}

abbrev pub freq_good : Board → ℕ → Bool
freq_good b f = leb b.freq_min f && leb f b.freq_max

abbrev pub power_good : Board → ℤ → Bool
power_good b p = le_z b.power_min p && le_z p b.power_max

-- P 9.2: iq_invert 1 needs bit 17
abbrev pub iq_good : Board → ℕ → Bool
iq_good b iq = cond (eqb iq 1) (among 17 b.bits) (eqb iq 0)

-- preamble and sync word are any
unfoldable pub lora_good : Board → Lora → Bool
lora_good b m =
    freq_good b m.freq_hz
    && (power_good b m.tx_power_dbm
    && (among m.sf b.sfs
    && (among m.bw b.bws
    && (leb m.cr 3
    && (leb m.header_mode 1
    && (leb m.payload_crc 1
    && iq_good b m.iq_invert))))))

-- other fields are any
unfoldable pub fsk_good : Board → Fsk → Bool
fsk_good b m = freq_good b m.freq_hz && leb m.sync_word_len sync_word_max

unfoldable pub params_good : Board → Modulation → Bool
params_good b (M.Lora m) = lora_good b m
params_good b (M.Fsk m) = fsk_good b m

-- ---- 01's board, in 01's own numbers: "What the firmware covers", and the paragraph after the seven steps

-- 150,000,000 to 960,000,000 Hz
abbrev pub freq_taken : ℕ → Bool
freq_taken f = leb 150000000 f && leb f 960000000

-- lora-taken: the frequency, -9 to 22 dBm, SF 5 to 12, bw 0 to 9, cr 0 to 3, header and crc 0 or 1, iq 0; negsuc 8 is -9
abbrev pub lora_taken : Lora → Bool
lora_taken m =
    freq_taken m.freq_hz
    && ((le_z (negsuc 8) m.tx_power_dbm && le_z m.tx_power_dbm (pos 22))
    && ((leb 5 m.sf && leb m.sf 12)
    && (leb m.bw 9
    && (leb m.cr 3
    && (leb m.header_mode 1
    && (leb m.payload_crc 1
    && eqb m.iq_invert 0))))))

-- fsk-taken: the frequency, and a sync word of 8 bytes at most
abbrev pub fsk_taken : Fsk → Bool
fsk_taken m = freq_taken m.freq_hz && leb m.sync_word_len 8
