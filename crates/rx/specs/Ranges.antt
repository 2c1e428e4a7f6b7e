-- Each field of a received packet is a value of its type: P 5.1 and 6.9.
-- Assumes nothing.
use Rattle.std.specs.Prelude.{◌<◌}
use Rattle.std.specs.Int.Signed.{mag}
use Rattle.scalar.specs.Scalars.{sign16, sign32}
use Rattle.rx.specs.declared.Rx.{Rx}

-- of a signed one, mag z is z or, below zero, -z - 1
pub record RxIn (m : Rx) : Type 0 where
  pub rssi : mag m.rssi < sign16
  pub snr : mag m.snr < sign16
  pub freq_err : mag m.freq_err < sign32
  pub timestamp_us : m.timestamp_us < 0x10000000000000000
  pub crc_valid : m.crc_valid < 0x100
  pub packets_dropped : m.packets_dropped < 0x10000
  pub origin : m.origin < 0x100
