-- Each field of a modulation's parameters is a value of its type: P 5.1, 10.1 and 10.2.
-- Assumes nothing.
use Rattle.std.specs.Prelude.{◌<◌}
use Rattle.std.specs.Int.Signed.{mag}
use Rattle.scalar.specs.Scalars.{sign8}
use Rattle.modulation.specs.declared.Lora.{Lora}
use Rattle.modulation.specs.declared.Fsk.{Fsk}
use Rattle.modulation.specs.declared.Modulation.{Modulation}
use Rattle.modulation.specs.declared.Modulation.TheVariants as M

-- of a signed one, mag z is z or, below zero, -z - 1
pub record LoraIn (m : Lora) : Type 0 where
  pub freq_hz : m.freq_hz < 0x100000000
  pub sf : m.sf < 0x100
  pub bw : m.bw < 0x100
  pub cr : m.cr < 0x100
  pub preamble_len : m.preamble_len < 0x10000
  pub sync_word : m.sync_word < 0x10000
  pub tx_power_dbm : mag m.tx_power_dbm < sign8
  pub header_mode : m.header_mode < 0x100
  pub payload_crc : m.payload_crc < 0x100
  pub iq_invert : m.iq_invert < 0x100

pub record FskIn (m : Fsk) : Type 0 where
  pub freq_hz : m.freq_hz < 0x100000000
  pub bitrate_bps : m.bitrate_bps < 0x100000000
  pub freq_dev_hz : m.freq_dev_hz < 0x100000000
  pub rx_bw : m.rx_bw < 0x100
  pub preamble_len : m.preamble_len < 0x10000
  pub sync_word_len : m.sync_word_len < 0x100

abbrev pub ModulationIn : Modulation → Type 0
ModulationIn (M.Lora m) = LoraIn m
ModulationIn (M.Fsk m) = FskIn m
