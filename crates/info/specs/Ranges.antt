-- Each field of an Info is a value of its type: P 5.1 and 6.2.
-- Assumes nothing.
use Rattle.std.specs.Prelude.{◌<◌}
use Rattle.std.specs.Int.Signed.{mag}
use Rattle.scalar.specs.Scalars.{sign8}
use Rattle.info.specs.declared.Info.{Info}

-- of a signed one, mag z is z or, below zero, -z - 1
pub record InfoIn (m : Info) : Type 0 where
  pub proto_major : m.proto_major < 0x100
  pub proto_minor : m.proto_minor < 0x100
  pub fw_major : m.fw_major < 0x100
  pub fw_minor : m.fw_minor < 0x100
  pub fw_patch : m.fw_patch < 0x100
  pub radio_chip_id : m.radio_chip_id < 0x10000
  pub capability_bitmap : m.capability_bitmap < 0x10000000000000000
  pub supported_sf_bitmap : m.supported_sf_bitmap < 0x10000
  pub supported_bw_bitmap : m.supported_bw_bitmap < 0x10000
  pub max_payload_bytes : m.max_payload_bytes < 0x10000
  pub rx_queue_capacity : m.rx_queue_capacity < 0x10000
  pub tx_queue_capacity : m.tx_queue_capacity < 0x10000
  pub freq_min_hz : m.freq_min_hz < 0x100000000
  pub freq_max_hz : m.freq_max_hz < 0x100000000
  pub tx_power_min_dbm : mag m.tx_power_min_dbm < sign8
  pub tx_power_max_dbm : mag m.tx_power_max_dbm < sign8
  pub mcu_uid_len : m.mcu_uid_len < 0x100
  pub radio_uid_len : m.radio_uid_len < 0x100
