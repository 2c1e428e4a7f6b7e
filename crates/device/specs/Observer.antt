-- What an observer outside knows, beside the tally: 01 "What each event does". It sees an event's arguments and its answer (number, frames written, order), and
-- never the device's state. Of the device only the types are used here and no rule: what an event brings about is told by its answer.
-- Assumes nothing.
use Rattle.std.specs.Prelude.{ℕ, zero, suc, Bool, true, false, cond, not, ◌&&◌, List, [], ◌∷◌, ◌++◌, leb, ltb, eqb, length, take, drop}
use Rattle.std.proofs.Math.Option.{Option, none, some}
use Rattle.scalar.specs.Scalars.{get}
use Rattle.kind.specs.Kinds.{SET_CONFIG, TX, RX_START, RX_STOP, OK, ERR, RX}
use Rattle.modulation.specs.Modulations.{config_of, sync_word}
use Rattle.command.specs.Commands.{flags, packet_of}
use Rattle.device.specs.State.{Config, Setting, Tx, Radio, free, listening, on_air, orphan, configuring, Packet, Air, Inbox, air, inbox}
use Rattle.device.specs.State.{Event, byte, tick, clear, busy, sent, configured, fault, packet, request}
use Rattle.device.specs.State.{disconnect, Order, nothing, standby, configure, transmit, receive}
use Rattle.device.specs.Messages.{Frame}
use Rattle.device.specs.Reading.{frames, brings}
use Rattle.device.specs.Frames.{Received, damaged, command}
use Rattle.device.specs.Events.{Reply}
use Rattle.device.specs.Tally.{Tally, if_taken, wrote}

-- ---- what it keeps

-- The configuration in force. The radio, as its orders and outcomes leave it, the TX that wait, oldest first, and the SET_CONFIG that waits. Whether receiving
-- is on, the packets that are held, oldest first, and how many were lost since the last RX, the session's start or the last SET_CONFIG taken, whichever came
-- last.
pub record Observer : Type 0 where
  pub config : Option Config
  pub air : Air
  pub inbox : Inbox

abbrev pub observer : Option Config → Air → Inbox → Observer
observer c a i = record { config = c; air = a; inbox = i }

abbrev pub with_air : Air → Observer → Observer
with_air a k = observer k.config a k.inbox

abbrev pub with_inbox : Inbox → Observer → Observer
with_inbox i k = observer k.config k.air i

-- receiving is off, and nothing is held
abbrev pub none_held : Inbox
none_held = inbox false [] 0

-- at power-up
abbrev pub knows_nothing : Observer
knows_nothing = observer none (air free [] none) none_held

-- ---- a byte

-- what a TX and a SET_CONFIG bring: P 6.4 and 6.3
abbrev pub tx_in : ℕ → List ℕ → Tx
tx_in t p = record { tag = t; flags = get flags p; packet = packet_of p }

abbrev pub setting_in : ℕ → List ℕ → Setting
setting_in t p = record { tag = t; config = record { modulation = config_of p; word = sync_word p } }

abbrev pub receives : Bool → Observer → Observer
receives on k = with_inbox (inbox on k.inbox.ring k.inbox.drops) k

-- nothing is held any more; receiving goes on if it was on: 02 §1
abbrev pub ring_cleared : Inbox → Inbox
ring_cleared i = inbox i.receiving [] 0

-- A TX with its OK waits; a SET_CONFIG without an ERR waits, and clears ring and count; RX_START and RX_STOP with their OK begin and end receiving.
abbrev pub command_noted : Received → List Frame → Observer → Observer
command_noted damaged fs k = k
command_noted (command kind t p) fs k =
    cond (eqb kind TX && wrote OK fs) (with_air (air k.air.radio (k.air.waiting ++ (tx_in t p ∷ [])) k.air.pending) k)
    (cond (eqb kind SET_CONFIG && not (wrote ERR fs))
    (observer k.config (air k.air.radio k.air.waiting (some (setting_in t p))) (ring_cleared k.inbox))
    (cond (eqb kind RX_START && wrote OK fs) (receives true k)
    (cond (eqb kind RX_STOP && wrote OK fs) (receives false k)
    k)))

-- a zero ends the run, unless that was empty
abbrev pub run_noted : List ℕ → List Frame → Observer → Observer
run_noted [] fs k = k
run_noted (r ∷ rs) fs k = command_noted (brings (r ∷ rs)) fs k

abbrev pub byte_noted : ℕ → List ℕ → List Frame → Observer → Observer
byte_noted zero run fs k = run_noted run fs k
byte_noted (suc n) run fs k = k

-- ---- the radio's outcomes

-- clear: what listened is on air
abbrev pub clear_noted : Radio → Radio
clear_noted free = free
clear_noted (listening t) = on_air t
clear_noted (on_air t) = on_air t
clear_noted orphan = orphan
clear_noted (configuring c) = configuring c

-- the radio has ended what it did
abbrev pub radio_ends : Observer → Observer
radio_ends k = with_air (air free k.air.waiting k.air.pending) k

-- a fault while configuring also ends receiving, by 02 §1, and leaves no configuration
abbrev pub fault_noted : Radio → Observer → Observer
fault_noted free k = radio_ends k
fault_noted (listening t) k = radio_ends k
fault_noted (on_air t) k = radio_ends k
fault_noted orphan k = radio_ends k
fault_noted (configuring c) k = radio_ends (observer none k.air (receives false k).inbox)

-- a SET_CONFIG that is confirmed by its OK is in force
abbrev pub confirmed : Bool → Radio → Option Config → Option Config
confirmed true free c = c
confirmed true (listening t) c = c
confirmed true (on_air t) c = c
confirmed true orphan c = c
confirmed true (configuring d) c = some d.config
confirmed false r c = c

-- ---- orders

-- configure: the SET_CONFIG that waits runs, and no TX is open
abbrev pub configure_noted : Option Setting → Air → Air
configure_noted none a = a
configure_noted (some c) a = air (configuring c) [] none

-- transmit: the oldest TX that waits is with the radio, which listens first or not
abbrev pub starts_as : Bool → ℕ → Radio
starts_as true t = listening t
starts_as false t = on_air t

abbrev pub transmit_noted : Bool → List Tx → Air → Air
transmit_noted first [] a = a
transmit_noted first (x ∷ xs) a = air (starts_as first x.tag) xs a.pending

abbrev pub order_noted : Order → Observer → Observer
order_noted nothing k = k
order_noted standby k = k
order_noted (configure c ldro) k = with_air (configure_noted k.air.pending k.air) k
order_noted (transmit bs first) k = with_air (transmit_noted first k.air.waiting k.air) k
order_noted receive k = k

-- ---- reception

-- a packet over 255 bytes is cut, and then its crc_valid is 0
abbrev pub cut_at255 : Packet → Packet
cut_at255 p =
    record {
      rssi = p.rssi;
      snr = p.snr;
      freq_err = p.freq_err;
      timestamp_us = p.timestamp_us;
      crc_valid = p.crc_valid && leb (length p.bytes) 255;
      bytes = take 255 p.bytes;
    }

-- 64 are held at most: one more loses the oldest
abbrev pub packet_noted : Packet → Inbox → Inbox
packet_noted p i =
    cond (ltb (length i.ring) 64) (inbox i.receiving (i.ring ++ (cut_at255 p ∷ [])) i.drops)
    (inbox i.receiving (drop 1 i.ring ++ (cut_at255 p ∷ [])) (suc i.drops))

-- an RX delivers the oldest, and counting begins anew
abbrev pub delivered : Bool → Inbox → Inbox
delivered true i = inbox i.receiving (drop 1 i.ring) 0
delivered false i = i

-- ---- a session's end

-- the tick that makes 1000
abbrev pub tick_ends : Tally → Bool
tick_ends t = t.session && (not t.pending && eqb (suc t.ticks) 1000)

-- a TX on air becomes an orphan, and configuring goes on
abbrev pub radio_left : Radio → Radio
radio_left free = free
radio_left (listening t) = free
radio_left (on_air t) = orphan
radio_left orphan = orphan
radio_left (configuring c) = configuring c

abbrev pub session_over : Observer → Observer
session_over k = observer none (air (radio_left k.air.radio) [] none) none_held

-- ---- each event

-- t is the tally before it, fs the frames written, and o the order
abbrev pub noted : Event → Tally → List Frame → Order → Observer → Observer
noted (byte n) t fs o k = order_noted o (byte_noted n t.run fs k)
noted tick t fs o k = cond (tick_ends t) (session_over k) k
noted clear t fs o k = with_air (air (clear_noted k.air.radio) k.air.waiting k.air.pending) k
noted busy t fs o k = order_noted o (radio_ends k)
noted (sent airtime) t fs o k = order_noted o (radio_ends k)
noted configured t fs o k = radio_ends (observer (confirmed (wrote OK fs) k.air.radio k.config) k.air k.inbox)
noted fault t fs o k = order_noted o (fault_noted k.air.radio k)
noted (packet p) t fs o k = with_inbox (packet_noted p k.inbox) k
noted request t fs o k = with_inbox (delivered (wrote RX fs) k.inbox) k
noted disconnect t fs o k = cond t.session (session_over k) k

-- after an event, by the event and its answer; a refused one changes nothing
unfoldable pub observed : Event → Reply → Tally → Observer → Observer
observed e r t k = if_taken r.number (noted e t (frames r.bytes) r.order k) k
