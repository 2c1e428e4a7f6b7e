-- Laws of reception: what stands in a slot once it is written, what the drop count leaves of it, and what the two events come to in each case.
-- Assumes nothing.
use Prim.Native.Nat.{ℕ, suc, ◌+◌, ◌*◌, ◌-◌, ◌%◌, ◌≤◌, ◌<◌, min}
use mathlib.Core.Path.{◌≡◌, refl, sym, ap, ap₂, ◌∙◌}
use mathlib.Core.Bool.{Bool, true, false, ◌&&◌, and-true, and-false}
use mathlib.Core.List.{List, [], ◌∷◌, ◌++◌}
use native.Mathlib.Omega.{arith}
use borrow.Author.Tests.{lt-ltb, le-ltb, le-leb, lt-leb}
use lib.Dec.{leb}
use lib.ListN.{length, take, drop, set, get_or, length-take, get_or-append}
use lib.Seq.{take_all, get_or-take}
use Rattle.status.specs.Numbers.{TAKEN, PLACE, ROOM}
use Rattle.buffer.specs.Lay.{lay}
use Rattle.buffer.proofs.Laws.{lay-lay, lay-next}
use Rattle.scalar.specs.Scalars.{le}
use Rattle.kind.specs.Kinds.{RX}
use Rattle.rx.specs.Rx.{rx_bytes}
use Rattle.rx.proofs.Laws.{length-rx}
use Rattle.board.specs.Board.{ring_max}
use Rattle.device.specs.State.{Packet}
use Rattle.device.specs.Messages.{frame, rx_value}
use Rattle.device.specs.Events.{cut, drops_max, room_min}
use Rattle.emit.specs.Emitting.{Writes}
use Rattle.emit.proofs.Laws.{sent-one}
use Rattle.control.specs.declared.Device.{Device}
use Rattle.control.specs.declared.Order.TheVariants.{Nothing}
use Rattle.control.specs.declared.Reply.{Reply}
use Rattle.control.specs.Control.{inbox, with_inbox, free?, does, taken, within}
use Rattle.control.proofs.Laws.{answered, returns-refusal, returns-quiet, refusal, silently, writes-all}
use Rattle.inbox.specs.declared.PacketStatus.{PacketStatus}
use Rattle.inbox.specs.Packets.{held_size, packets_size, held_bytes, packet_kept, counted, rx_payload_at, takes, received_packet}
use Rattle.inbox.specs.Packets.{more, on_packet, on_request, packet_out, request_out, PacketTaken, RequestTaken}

-- ---- what is written to a slot

-- the packet's length, its fields and its bytes, one after another
pub put-slot : (at : ℕ) (p : Packet) (m : List ℕ) → length p.bytes ≤ 255 → at + 276 ≤ length m
    → lay (at + 1 + 20) p.bytes (lay (at + 1) (rx_bytes (rx_value p 0)) (set m at (length p.bytes))) ≡ lay at (held_bytes p) m
put-slot at p m small room =
    let f = rx_bytes (rx_value p 0) in
    let n = length p.bytes in
    let l = length-rx (rx_value p 0) in
    let e : at + 1 + 20 ≡ at + length (n ∷ f) = omega (arith, l) in
    rw (e, lay-next at n f m (omega arith)) (lay-lay at (n ∷ f) m (omega (arith, l)) p.bytes)

-- ---- the drop count

-- one more, and no more than the highest
pub more-drops : (n : ℕ) → n < drops_max → min (suc n) drops_max ≡ n + 1
more-drops n h = omega arith

pub most-drops : (n : ℕ) → drops_max ≤ n → min (suc n) drops_max ≡ drops_max
most-drops n h = omega arith

-- ---- a packet that is cut

-- a status with another crc_valid
abbrev with_crc : PacketStatus → Bool → PacketStatus
with_crc h b = record { rssi = h.rssi; snr = h.snr; freq_err = h.freq_err; timestamp_us = h.timestamp_us; crc_valid = b }

module _ (m : List ℕ) (k : ℕ) (h : PacketStatus) (bs : List ℕ) where
  abbrev laid : Bool → List ℕ → List ℕ
  laid b cs = lay (k * held_size) (held_bytes (received_packet (with_crc h b) cs)) m

  -- the packet's slot, where it is not cut, and where it is
  pub keep-whole : length bs ≤ 255 → lay (k * held_size) (held_bytes (received_packet h bs)) m ≡ packet_kept m k (cut (received_packet h bs))
  unfolding packet_kept
  keep-whole small =
      let e : (h.crc_valid && leb (length bs) 255) ≡ h.crc_valid = rw (le-leb (length bs) 255 small) (and-true h.crc_valid) in
      sym (ap₂ laid e (take_all 255 bs small))

  pub keep-cut : 255 < length bs
      → lay (k * held_size) (held_bytes (received_packet (with_crc h false) (take 255 bs))) m ≡ packet_kept m k (cut (received_packet h bs))
  unfolding packet_kept
  keep-cut long =
      let e : (h.crc_valid && leb (length bs) 255) ≡ false = rw (lt-leb (length bs) 255 long) (and-false h.crc_valid) in
      sym (ap (λ (b : Bool). laid b (take 255 bs)) e)

-- ---- the drop count in a slot

-- it is written after the packet's length
pub counted-at : (m : List ℕ) (k n : ℕ) {bs m' : List ℕ} → bs ≡ le 2 n → m' ≡ lay (k * held_size + 1 + 17) bs m → m' ≡ counted m k n
unfolding counted
counted-at m k n e f =
    let p : k * held_size + 1 + 17 ≡ k * held_size + 18 = omega arith in
    rw (e, p) at f

module _ (m : List ℕ) (k n : ℕ) (slot : k < ring_max) (whole : length m ≡ packets_size) where
  -- the packet's length stays
  length-stays : get_or (counted m k n) (k * held_size) 0 ≡ get_or m (k * held_size) 0
  unfolding counted lay
  length-stays =
      get_or-append (take (k * held_size + 18) m) (le 2 n ++ drop (k * held_size + 18 + length (le 2 n)) m) 0 (k * held_size)
      (rw length-take (omega arith))
      ∙ get_or-take (k * held_size + 18) m (k * held_size) 0 (omega arith)

  -- the payload is the part from after it to its end
  pub payload-part : take (k * held_size + 1 + 20 + get_or m (k * held_size) 0 - (k * held_size + 1)) (drop (k * held_size + 1) (counted m k n))
      ≡ rx_payload_at (counted m k n) k
  payload-part =
      let e : k * held_size + 1 + 20 + get_or m (k * held_size) 0 - (k * held_size + 1) ≡ 20 + get_or m (k * held_size) 0 = omega arith in
      rw (e, length-stays)

-- ---- a packet, in each case

-- a packet has a place only then
abbrev hears : Device → Bool
hears d = d.inbox.receiving && free? d.air.radio

module _ (room : ℕ) (p : Packet) (m : List ℕ) (d : Device) where
  pub no_room : {r : Reply} → room < room_min → r ≡ answered d ROOM 0 Nothing → PacketTaken (packet_out room p m d) r m
  unfolding packet_out within
  no_room h e = rw (lt-ltb room room_min h) record { returns = returns-refusal ROOM d e; packets = refl }

  module _ (wide : room_min ≤ room) where
    done-by : (b : Bool) → hears d ≡ b → packet_out room p m d ≡ on_packet b p m d
    unfolding packet_out within
    done-by b t = simp (le-ltb room room_min wide, t)

    pub no_place : {r : Reply} → hears d ≡ false → r ≡ answered d PLACE 0 Nothing → PacketTaken (packet_out room p m d) r m
    no_place t e = rw (done-by false t) record { returns = returns-refusal PLACE d e; packets = refl }

    pub placed : {r : Reply} {m' : List ℕ} → hears d ≡ true
        → r ≡ answered (with_inbox d (more d.inbox)) TAKEN 0 Nothing
        → m' ≡ packet_kept m ((d.inbox.first + d.inbox.held) % ring_max) (cut p) → PacketTaken (packet_out room p m d) r m'
    placed t e f = rw (done-by true t) record { returns = returns-quiet (with_inbox d (more d.inbox)) Nothing e; packets = f }

-- ---- a request, in each case

module _ (o m : List ℕ) (d : Device) where
  pub no-room-out : {r : Reply} → length o < room_min → r ≡ answered d ROOM 0 Nothing → RequestTaken (request_out (length o) m d) o r o m
  unfolding request_out within
  no-room-out h e = rw (lt-ltb (length o) room_min h) record { answers = refusal ROOM d o e; packets = refl }

  module _ (wide : room_min ≤ length o) where
    done-of : (n : ℕ) → d.inbox.held ≡ n → request_out (length o) m d ≡ takes (on_request n m d)
    unfolding request_out within
    done-of n t = simp (le-ltb (length o) room_min wide, t)

    pub none-held : {r : Reply} → d.inbox.held ≡ 0 → r ≡ answered d TAKEN 0 Nothing → RequestTaken (request_out (length o) m d) o r o m
    none-held t e = rw (done-of 0 t) record { answers = silently (taken (does d [] Nothing)) o refl (returns-quiet d Nothing e); packets = refl }

    abbrev slot : ℕ
    slot = d.inbox.first % ring_max

    abbrev after : List ℕ
    after = counted m slot d.inbox.drops

    abbrev next : ℕ → Device
    next n = with_inbox d (inbox d.inbox.receiving ((slot + 1) % ring_max) n 0)

    pub delivered : {r : Reply} {o' m' : List ℕ} {w : ℕ} → (n : ℕ) → d.inbox.held ≡ suc n → m' ≡ after
        → Writes (frame RX 0 (rx_payload_at after slot)) o 0 w o' → r ≡ answered (next n) TAKEN w Nothing
        → RequestTaken (request_out (length o) m d) o r o' m'
    delivered n t f s e = rw (done-of (suc n) t) record { answers = writes-all (next n) Nothing (sent-one s) e; packets = f }
