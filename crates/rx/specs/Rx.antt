-- A received packet, RX: P 6.9; 01 "Numbers that come back", the RX columns. The packet's bytes follow them.
-- Assumes nothing.
use Rattle.std.specs.Prelude.{ℕ, ◌+◌, cond, List, ltb, length, replicate, drop}
use Rattle.scalar.specs.Scalars.{sign16, sign32, signed, unsigned, Column, column, get, put}
use Rattle.kind.specs.Kinds.{packet_max}
use Rattle.form.specs.declared.Form.{Form}
use Rattle.form.specs.declared.Form.TheVariants as F
use Rattle.rx.specs.declared.Rx.{Rx}

-- offset and size
abbrev rssi : Column
rssi = column 0 2

abbrev snr : Column
snr = column 2 2

abbrev freq_err : Column
freq_err = column 4 4

abbrev timestamp_us : Column
timestamp_us = column 8 8

abbrev crc_valid : Column
crc_valid = column 16 1

abbrev pub dropped_at : ℕ
dropped_at = 17

abbrev packets_dropped : Column
packets_dropped = column dropped_at 2

abbrev origin : Column
origin = column 19 1

abbrev pub rx_size : ℕ
rx_size = 20

-- 01, FORM: too few bytes; a packet over 255; crc_valid or origin over 1
unfoldable pub rx_form : List ℕ → Form
rx_form p =
    cond (ltb (length p) rx_size) F.Wrong
    (cond (ltb (rx_size + packet_max) (length p)) F.Wrong
    (cond (ltb 1 (get crc_valid p)) F.Wrong
    (cond (ltb 1 (get origin p)) F.Wrong
    (F.Size (length p)))))

-- the fields in a payload of that form
unfoldable pub rx_of : List ℕ → Rx
rx_of p =
    record {
      rssi = signed sign16 (get rssi p);
      snr = signed sign16 (get snr p);
      freq_err = signed sign32 (get freq_err p);
      timestamp_us = get timestamp_us p;
      crc_valid = get crc_valid p;
      packets_dropped = get packets_dropped p;
      origin = get origin p;
    }

-- the packet
abbrev pub rx_packet : List ℕ → List ℕ
rx_packet p = drop rx_size p

-- the bytes before the packet
unfoldable pub rx_bytes : Rx → List ℕ
rx_bytes m =
    put rssi (unsigned sign16 m.rssi)
    (put snr (unsigned sign16 m.snr)
    (put freq_err (unsigned sign32 m.freq_err)
    (put timestamp_us m.timestamp_us
    (put crc_valid m.crc_valid
    (put packets_dropped m.packets_dropped
    (put origin m.origin
    (replicate rx_size 0)))))))
