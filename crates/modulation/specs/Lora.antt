-- LoRa's parameters: P 10.1. The columns of its table say where each field stands; reading and writing go by them.
-- Assumes nothing.
use Rattle.std.specs.Prelude.{ℕ, List, replicate}
use Rattle.scalar.specs.Scalars.{sign8, signed, unsigned, Column, column, get, put}
use Rattle.modulation.specs.declared.Lora.{Lora}

-- offset and size
abbrev freq_hz : Column
freq_hz = column 0 4

abbrev pub sf_at : ℕ
sf_at = 4

abbrev sf : Column
sf = column sf_at 1

abbrev pub bw_at : ℕ
bw_at = 5

abbrev bw : Column
bw = column bw_at 1

abbrev cr : Column
cr = column 6 1

abbrev preamble_len : Column
preamble_len = column 7 2

abbrev sync_word : Column
sync_word = column 9 2

abbrev tx_power_dbm : Column
tx_power_dbm = column 11 1

abbrev header_mode : Column
header_mode = column 12 1

abbrev payload_crc : Column
payload_crc = column 13 1

abbrev iq_invert : Column
iq_invert = column 14 1

abbrev pub lora_size : ℕ
lora_size = 15

-- the parameters in some bytes
unfoldable pub lora_of : List ℕ → Lora
lora_of p =
    record {
      freq_hz = get freq_hz p;
      sf = get sf p;
      bw = get bw p;
      cr = get cr p;
      preamble_len = get preamble_len p;
      sync_word = get sync_word p;
      tx_power_dbm = signed sign8 (get tx_power_dbm p);
      header_mode = get header_mode p;
      payload_crc = get payload_crc p;
      iq_invert = get iq_invert p;
    }

-- their bytes
unfoldable pub lora_bytes : Lora → List ℕ
lora_bytes m =
    put freq_hz m.freq_hz
    (put sf m.sf
    (put bw m.bw
    (put cr m.cr
    (put preamble_len m.preamble_len
    (put sync_word m.sync_word
    (put tx_power_dbm (unsigned sign8 m.tx_power_dbm)
    (put header_mode m.header_mode
    (put payload_crc m.payload_crc
    (put iq_invert m.iq_invert
    (replicate lora_size 0))))))))))
