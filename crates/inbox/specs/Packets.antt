-- Packets that are received, held in a ring, and delivered: 01 "What each event does", packet and request.
-- The memory of packets has 64 slots of 276 bytes: the packet's length, RX's fields (P 6.9) with a drop count of 0, and up to 255 bytes of packet.
-- Assumes nothing.
use Rattle.std.specs.Prelude.{ℕ, zero, suc, ◌+◌, ◌*◌, ◌%◌, min, ◌≡◌, Bool, true, false, cond, ◌&&◌, List, [], ◌∷◌, ◌++◌, ltb, length, take, drop, get_or}
use Rattle.status.specs.Numbers.{PLACE}
use Rattle.buffer.specs.Lay.{lay}
use Rattle.scalar.specs.Scalars.{le}
use Rattle.kind.specs.Kinds.{RX, packet_max}
use Rattle.rx.specs.Rx.{dropped_at, rx_size, rx_bytes}
use Rattle.board.specs.Board.{ring_max}
use Rattle.device.specs.State.{Packet}
use Rattle.device.specs.Messages.{frame, rx_value}
use Rattle.device.specs.Events.{cut, drops_max, room_min}
use Rattle.control.specs.declared.Inbox.{Inbox}
use Rattle.control.specs.declared.Device.{Device}
use Rattle.control.specs.declared.Order.TheVariants.{Nothing}
use Rattle.control.specs.declared.Reply.{Reply}
use Rattle.control.specs.Control.{inbox, with_inbox, free?, Done, does, Out, taken, refused, within, Returns, Replies}
use Rattle.inbox.specs.declared.PacketStatus.{PacketStatus}

-- ---- the memory of packets

abbrev pub held_size : ℕ
held_size = 1 + (rx_size + packet_max)

abbrev pub packets_size : ℕ
packets_size = ring_max * held_size

-- what stands in a slot for the packet p
abbrev pub held_bytes : Packet → List ℕ
held_bytes p = length p.bytes ∷ (rx_bytes (rx_value p 0) ++ p.bytes)

-- the memory m with the packet p in slot k
unfoldable pub packet_kept : List ℕ → ℕ → Packet → List ℕ
packet_kept m k p = lay (k * held_size) (held_bytes p) m

-- the memory m with the drop count n in slot k
unfoldable pub counted : List ℕ → ℕ → ℕ → List ℕ
counted m k n = lay (k * held_size + (1 + dropped_at)) (le 2 n) m

-- the payload of an RX in slot k
abbrev pub rx_payload_at : List ℕ → ℕ → List ℕ
rx_payload_at m k = take (rx_size + get_or m (k * held_size) 0) (drop (k * held_size + 1) m)

-- what is given, by one that is taken (Done) or by any (Out), and the memory that is left
pub record PacketGives (A : Type 0) : Type 0 where
  pub gives : A
  pub packets : List ℕ

abbrev pub packet_gives : {A : Type 0} → A → List ℕ → PacketGives A
packet_gives x m = record { gives = x; packets = m }

abbrev pub takes : PacketGives Done → PacketGives Out
takes x = packet_gives (taken x.gives) x.packets

-- ---- packet

-- the status of a received packet, and its bytes
abbrev pub received_packet : PacketStatus → List ℕ → Packet
received_packet h bs =
    record { rssi = h.rssi; snr = h.snr; freq_err = h.freq_err; timestamp_us = h.timestamp_us; crc_valid = h.crc_valid; bytes = bs }

-- one more, in the slot after the last; a full ring loses its oldest, and the count rises
abbrev pub more : Inbox → Inbox
more i =
    cond (ltb i.held ring_max) (inbox i.receiving i.first (i.held + 1) i.drops)
    (inbox i.receiving ((i.first % ring_max + 1) % ring_max) i.held (min (suc i.drops) drops_max))

abbrev pub on_packet : Bool → Packet → List ℕ → Device → PacketGives Out
on_packet true p m d =
    takes (packet_gives (does (with_inbox d (more d.inbox)) [] Nothing) (packet_kept m ((d.inbox.first + d.inbox.held) % ring_max) (cut p)))
on_packet false p m d = packet_gives (refused PLACE d) m

-- ---- request

abbrev pub on_request : ℕ → List ℕ → Device → PacketGives Done
on_request zero m d = packet_gives (does d [] Nothing) m
on_request (suc n) m d =
    let k = d.inbox.first % ring_max in
    let m' = counted m k d.inbox.drops in
    packet_gives (does (with_inbox d (inbox d.inbox.receiving ((k + 1) % ring_max) n 0)) (frame RX 0 (rx_payload_at m' k) ∷ []) Nothing) m'

-- ---- the two events, with output of so much room

abbrev held_within : ℕ → List ℕ → Device → PacketGives Out → PacketGives Out
held_within room m d x = packet_gives (within room d x.gives) (cond (ltb room room_min) m x.packets)

unfoldable pub packet_out : ℕ → Packet → List ℕ → Device → PacketGives Out
packet_out room p m d = held_within room m d (on_packet (d.inbox.receiving && free? d.air.radio) p m d)

unfoldable pub request_out : ℕ → List ℕ → Device → PacketGives Out
request_out room m d = held_within room m d (takes (on_request d.inbox.held m d))

-- the contract of a packet, which writes nothing
pub record PacketTaken (x : PacketGives Out) (r : Reply) (m' : List ℕ) : Type 0 where
  pub returns : Returns x.gives r
  pub packets : m' ≡ x.packets

-- the contract of a request
pub record RequestTaken (x : PacketGives Out) (o : List ℕ) (r : Reply) (o' m' : List ℕ) : Type 0 where
  pub answers : Replies x.gives o r o'
  pub packets : m' ≡ x.packets
