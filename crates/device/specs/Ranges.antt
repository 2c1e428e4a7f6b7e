-- Each number of an event, and of a board, is a value of its type: a byte, an airtime of u32, and a packet's values as P 5.1 and 6.9 have them.
-- Assumes nothing.
use Rattle.std.specs.Prelude.{◌<◌, ◌≤◌, length}
use Rattle.std.specs.Int.Signed.{mag}
use Rattle.scalar.specs.Scalars.{sign16, sign32}
use Rattle.board.specs.Board.{Board, board_info}
use Rattle.info.specs.Info.{mcu_max, radio_max}
use Rattle.info.specs.Ranges.{InfoIn}
use Rattle.device.specs.State.{Packet, Event, byte, tick, clear, busy, sent, configured, fault, packet, request, disconnect, Input}

-- of a signed one, mag z is z or, below zero, -z - 1; nothing is asked of a packet's bytes
pub record PacketIn (p : Packet) : Type 0 where
  pub rssi : mag p.rssi < sign16
  pub snr : mag p.snr < sign16
  pub freq_err : mag p.freq_err < sign32
  pub timestamp_us : p.timestamp_us < 0x10000000000000000

abbrev pub EventIn : Event → Type 0
EventIn (byte n) = n < 0x100
EventIn tick = Unit {0}
EventIn clear = Unit {0}
EventIn busy = Unit {0}
EventIn (sent airtime) = airtime < 0x100000000
EventIn configured = Unit {0}
EventIn fault = Unit {0}
EventIn (packet p) = PacketIn p
EventIn request = Unit {0}
EventIn disconnect = Unit {0}

abbrev pub InputIn : Input → Type 0
InputIn i = EventIn i.event

-- of a board, and its uids have lengths that P 6.2 allows
pub record BoardIn (b : Board) : Type 0 where
  pub info : InfoIn (board_info b)
  pub mcu_uid : length b.mcu_uid ≤ mcu_max
  pub radio_uid : length b.radio_uid ≤ radio_max
