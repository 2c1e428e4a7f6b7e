-- The status of a received packet, as numbers with names: no order of arguments can exchange rssi and snr.
-- Assumes nothing.
use Rattle.std.specs.Prelude.{not, eqb}
use Rattle.inbox.specs.declared.PacketStatus.{PacketStatus}
use Rattle.ffi_radio.specs.declared.PacketReport.{PacketReport}

-- crc_valid is 0, or any other number
unfoldable pub status_in : PacketReport → PacketStatus
status_in h =
    record { rssi = h.rssi; snr = h.snr; freq_err = h.freq_err; timestamp_us = h.timestamp_us; crc_valid = not (eqb h.crc_valid 0) }
