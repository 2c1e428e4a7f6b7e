-- FSK's parameters: P 10.2. The columns of its table say where each field stands; the sync word follows them.
-- Assumes nothing.
use Rattle.std.specs.Prelude.{ℕ, List, replicate}
use Rattle.scalar.specs.Scalars.{Column, column, get, put}
use Rattle.modulation.specs.declared.Fsk.{Fsk}

-- offset and size
abbrev freq_hz : Column
freq_hz = column 0 4

abbrev bitrate_bps : Column
bitrate_bps = column 4 4

abbrev freq_dev_hz : Column
freq_dev_hz = column 8 4

abbrev rx_bw : Column
rx_bw = column 12 1

abbrev preamble_len : Column
preamble_len = column 13 2

abbrev pub sync_word_len : Column
sync_word_len = column 15 1

abbrev pub fsk_size : ℕ
fsk_size = 16

-- the longest sync word
abbrev pub sync_word_max : ℕ
sync_word_max = 8

-- the parameters in some bytes
unfoldable pub fsk_of : List ℕ → Fsk
fsk_of p =
    record {
      freq_hz = get freq_hz p;
      bitrate_bps = get bitrate_bps p;
      freq_dev_hz = get freq_dev_hz p;
      rx_bw = get rx_bw p;
      preamble_len = get preamble_len p;
      sync_word_len = get sync_word_len p;
    }

-- their bytes, without the sync word
unfoldable pub fsk_bytes : Fsk → List ℕ
fsk_bytes m =
    put freq_hz m.freq_hz
    (put bitrate_bps m.bitrate_bps
    (put freq_dev_hz m.freq_dev_hz
    (put rx_bw m.rx_bw
    (put preamble_len m.preamble_len
    (put sync_word_len m.sync_word_len
    (replicate fsk_size 0))))))
