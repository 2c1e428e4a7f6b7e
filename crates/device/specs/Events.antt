-- 01 "What each event does", item by item: a state and an event give the next state and an answer.
-- Assumes nothing.
use Rattle.std.specs.Prelude.{ℕ, zero, suc, min, Bool, true, false, cond, not, ◌&&◌, List, [], ◌∷◌, ◌++◌, leb, ltb, eqb, length, take, drop}
use Rattle.std.proofs.Math.Option.{Option, none, some}
use Rattle.status.specs.Numbers.{TAKEN, ROOM, STALL, PLACE}
use Rattle.frame.specs.Body.{frame_max}
use Rattle.kind.specs.Kinds.{GET_INFO, SET_CONFIG, TX, RX_START, RX_STOP, ERADIO, EFRAME, TRANSMITTED, CHANNEL_BUSY, CANCELLED, packet_max}
use Rattle.modulation.specs.declared.Modulation.{Modulation}
use Rattle.modulation.specs.declared.Modulation.TheVariants as M
use Rattle.board.specs.Board.{Board, ring_max}
use Rattle.board.specs.Ldro.{ldro}
use Rattle.device.specs.State.{Config, Setting, Tx, RadioOf, Radio, free, listening, on_air, orphan, configuring, Packet, Inbox, State}
use Rattle.device.specs.State.{link, air, inbox, state, with_config, with_link, with_air, with_inbox, with_receiving, no_session, no_reception}
use Rattle.device.specs.State.{tags_of, free?, stalled}
use Rattle.device.specs.State.{Event, byte, tick, clear, busy, sent, configured, fault, packet, request}
use Rattle.device.specs.State.{disconnect, Input, Order, nothing, standby, configure, transmit, receive}
use Rattle.device.specs.Messages.{Message, ok, ok_info, ok_configured, err, tx_done, cancelled, rx, messages_bytes}
use Rattle.device.specs.Frames.{Received, damaged, command, received, error_of, setting_of, tx_of}

-- what an event does that is taken: the next state, the messages written and the radio order
pub record Done : Type 0 where
  pub next : State
  pub written : List Message
  pub order : Order

abbrev pub does : State → List Message → Order → Done
does s ms o = record { next = s; written = ms; order = o }

-- one message is written
abbrev pub writes_first : Message → Order → State → Done
writes_first m o s = does s (m ∷ []) o

-- what an event is answered with: the number too
pub record Out : Type 0 where
  pub next : State
  pub number : ℕ
  pub written : List Message
  pub order : Order

abbrev pub taken : Done → Out
taken x = record { next = x.next; number = TAKEN; written = x.written; order = x.order }

-- a refusal writes nothing, orders nothing and leaves the state
abbrev pub refused : ℕ → State → Out
refused n s = record { next = s; number = n; written = []; order = nothing }

-- ---- TX taken: its OK, and then it starts if the radio is free, or waits

-- A TX that starts listens first only under LoRa and with skip_cad 0. Both are looked at as it starts: its own flags, and the configuration of that moment.
abbrev pub listens_in : Modulation → ℕ → Bool
listens_in (M.Lora m) f = eqb f 0
listens_in (M.Fsk m) f = false

unfoldable pub listens : Option Config → ℕ → Bool
listens none f = false
listens (some c) f = listens_in c.modulation f

abbrev pub begun : {C : Type 0} → Bool → ℕ → RadioOf C
begun true t = listening t
begun false t = on_air t

-- the TX x starts, and ws wait
abbrev pub start : Tx → List Tx → List Message → State → Done
start x ws ms s =
    let first = listens s.config x.flags in
    does (with_air (air (begun first x.tag) ws none) s) ms (transmit x.packet first)

abbrev pub waits_for : Tx → Radio → State → Done
waits_for x r s =
    writes_first (ok x.tag) nothing (with_air (air r (s.air.waiting ++ (x ∷ [])) s.air.pending) s)

abbrev pub on_tx : Tx → Radio → State → Done
on_tx x free s = start x s.air.waiting (ok x.tag ∷ []) s
on_tx x (listening t) s = waits_for x (listening t) s
on_tx x (on_air t) s = waits_for x (on_air t) s
on_tx x orphan s = waits_for x orphan s
on_tx x (configuring c) s = waits_for x (configuring c) s

-- ---- after a TX ends

-- the radio begins to be configured
abbrev pub begin : Setting → List Message → State → Done
begin c ms s =
    does (with_air (air (configuring c) [] none) s) ms (configure c.config (ldro c.config.modulation))

-- the order when there is nothing to send: receive if receiving, else standby
unfoldable pub idle : Bool → Order
idle true = receive
idle false = standby

-- what comes next: a waiting SET_CONFIG, which cancels the TX that wait; else the oldest waiting TX; else receive or standby
abbrev pub next : Option Setting → List Tx → List Message → State → Done
next (some c) ws ms s = begin c (ms ++ cancelled (tags_of ws)) s
next none (w ∷ ws) ms s = start w ws ms s
next none [] ms s = does (with_air (air free [] none) s) ms (idle s.inbox.receiving)

abbrev pub after_tx : List Message → State → Done
after_tx ms s = next s.air.pending s.air.waiting ms s

-- ---- clear, busy, sent

-- listening becomes on air
abbrev pub on_clear : Radio → State → Out
on_clear free s = refused PLACE s
on_clear (listening t) s = taken (does (with_air (air (on_air t) s.air.waiting s.air.pending) s) [] nothing)
on_clear (on_air t) s = refused PLACE s
on_clear orphan s = refused PLACE s
on_clear (configuring c) s = refused PLACE s

-- the channel is busy: that TX is reported with 1
abbrev pub on_busy : Radio → State → Out
on_busy free s = refused PLACE s
on_busy (listening t) s = taken (after_tx (tx_done CHANNEL_BUSY 0 t ∷ []) s)
on_busy (on_air t) s = refused PLACE s
on_busy orphan s = refused PLACE s
on_busy (configuring c) s = refused PLACE s

-- what was on air is reported with 0 and its airtime; an orphan is not
abbrev pub on_sent : ℕ → Radio → State → Out
on_sent airtime free s = refused PLACE s
on_sent airtime (listening t) s = refused PLACE s
on_sent airtime (on_air t) s = taken (after_tx (tx_done TRANSMITTED airtime t ∷ []) s)
on_sent airtime orphan s = taken (after_tx [] s)
on_sent airtime (configuring c) s = refused PLACE s

-- ---- SET_CONFIG taken

-- It empties the ring and clears the count; receiving goes on, by 02 §1.
abbrev pub ring_emptied : Inbox → Inbox
ring_emptied i = inbox i.receiving [] 0

-- Its OK comes later. With a TX or an orphan on air it waits. Otherwise every open TX is reported with 2, the oldest first, and the radio is configured.
-- While the radio is being configured no byte is taken, so none comes then.
abbrev pub on_set : Setting → Radio → State → Done
on_set c free s = begin c (cancelled (tags_of s.air.waiting)) s
on_set c (listening t) s = begin c (cancelled (t ∷ tags_of s.air.waiting)) s
on_set c (on_air t) s = does (with_air (air (on_air t) s.air.waiting (some c)) s) [] nothing
on_set c orphan s = does (with_air (air orphan s.air.waiting (some c)) s) [] nothing
on_set c (configuring d) s = begin c (cancelled (tags_of s.air.waiting)) s

-- ---- configured

-- continuous receive is armed again where receiving is on, and the radio is told nothing where it is off: 02 §1, P 3.5 and 6.3
abbrev pub rearmed : Bool → Order
rearmed on = cond on receive nothing

-- CONFIGURED, and the OK that was withheld. Where the session has ended, neither: the radio goes to standby.
abbrev pub in_force : Bool → Setting → State → Done
in_force true c s =
    writes_first (ok_configured c) (rearmed s.inbox.receiving) (with_config (some c.config) (with_air (air free s.air.waiting s.air.pending) s))
in_force false c s = does (with_air (air free s.air.waiting s.air.pending) s) [] standby

abbrev pub on_configured : Radio → State → Out
on_configured free s = refused PLACE s
on_configured (listening t) s = refused PLACE s
on_configured (on_air t) s = refused PLACE s
on_configured orphan s = refused PLACE s
on_configured (configuring c) s = taken (in_force s.link.session c s)

-- ---- fault

-- a message that is written in an open session only
abbrev pub if_session : Bool → Message → List Message
if_session true m = m ∷ []
if_session false m = []

-- While configuring, it fails the SET_CONFIG: ERR(ERADIO) with its tag, UNCONFIGURED, standby, and by 02 §1 receiving ends. Otherwise ERR(ERADIO) comes with
-- tag 0, then the TX with the radio is reported with 2, and then all goes on as after a TX.
abbrev pub on_fault : Radio → State → Done
on_fault free s = after_tx (if_session s.link.session (err ERADIO 0)) s
on_fault (listening t) s = after_tx (if_session s.link.session (err ERADIO 0) ++ (tx_done CANCELLED 0 t ∷ [])) s
on_fault (on_air t) s = after_tx (if_session s.link.session (err ERADIO 0) ++ (tx_done CANCELLED 0 t ∷ [])) s
on_fault orphan s = after_tx (if_session s.link.session (err ERADIO 0)) s
on_fault (configuring c) s =
    does (with_config none (with_inbox (with_receiving false s.inbox) (with_air (air free s.air.waiting s.air.pending) s)))
    (if_session s.link.session (err ERADIO c.tag)) standby

-- ---- packet

-- a packet over 255 bytes is cut, and then its crc_valid is 0
abbrev pub cut : Packet → Packet
cut p =
    record {
      rssi = p.rssi;
      snr = p.snr;
      freq_err = p.freq_err;
      timestamp_us = p.timestamp_us;
      crc_valid = p.crc_valid && leb (length p.bytes) packet_max;
      bytes = take packet_max p.bytes;
    }

-- the highest drop count
abbrev pub drops_max : ℕ
drops_max = 65535

-- a full ring loses its oldest, and the count rises
abbrev pub kept : Packet → Inbox → Inbox
kept p i =
    cond (ltb (length i.ring) ring_max) (inbox i.receiving (i.ring ++ (p ∷ [])) i.drops)
    (inbox i.receiving (drop 1 i.ring ++ (p ∷ [])) (min (suc i.drops) drops_max))

-- it fits when receiving is on and the radio is free
abbrev pub on_packet : Bool → Packet → State → Out
on_packet true p s = taken (does (with_inbox (kept (cut p) s.inbox) s) [] nothing)
on_packet false p s = refused PLACE s

-- ---- RX_START, RX_STOP

-- OK, and receiving is turned on or off. The radio is told if that is a change, and it is free. Ring and count stay.
abbrev pub changed : Bool → Bool → Bool
changed true was = not was
changed false was = was

abbrev pub turned : Bool → ℕ → State → Done
turned on t s =
    writes_first (ok t) (cond (free? s.air.radio && changed on s.inbox.receiving) (idle on) nothing)
    (with_inbox (with_receiving on s.inbox) s)

-- ---- request

-- the oldest packet goes out with the count, and the count begins anew
abbrev pub on_request : List Packet → State → Done
on_request [] s = does s [] nothing
on_request (p ∷ ps) s = writes_first (rx p s.inbox.drops) nothing (with_inbox (inbox s.inbox.receiving ps 0) s)

-- ---- tick, disconnect

-- What a session's end leaves of the radio: a TX on air becomes an orphan, one that listens is given up, and configuring goes on.
abbrev pub ended : {C : Type 0} → RadioOf C → RadioOf C
ended free = free
ended (listening t) = free
ended (on_air t) = orphan
ended orphan = orphan
ended (configuring c) = configuring c

-- Of the rest it leaves nothing: no configuration, no run, no open TX, no waiting SET_CONFIG, no packet. Standby is ordered if the radio is free.
abbrev pub end_session : Radio → Done
end_session r = does (state none no_session (air (ended r) [] none) no_reception) [] (cond (free? (ended r)) standby nothing)

-- the tick that makes the liveness count 1000 ends the session
abbrev pub ticks_max : ℕ
ticks_max = 1000

-- a tick counts in an open session, but not while a SET_CONFIG waits or runs
abbrev pub on_tick : State → Done
on_tick s =
    cond (s.link.session && not (stalled s.air))
    (cond (eqb (suc s.link.ticks) ticks_max) (end_session s.air.radio)
    (does (with_link (link true (suc s.link.ticks) s.link.run) s) [] nothing))
    (does s [] nothing)

-- with no session open only the run is emptied
abbrev pub on_disconnect : Bool → State → Done
on_disconnect true s = end_session s.air.radio
on_disconnect false s = does (with_link (link false s.link.ticks []) s) [] nothing

-- ---- byte

-- a command without an error; a SET_CONFIG empties the ring before anything else
abbrev pub on_command : Board → ℕ → ℕ → List ℕ → State → Done
on_command b kind t p s =
    cond (eqb kind TX) (on_tx (tx_of t p) s.air.radio s)
    (cond (eqb kind SET_CONFIG) (on_set (setting_of t p) s.air.radio (with_inbox (ring_emptied s.inbox) s))
    (cond (eqb kind RX_START) (turned true t s)
    (cond (eqb kind RX_STOP) (turned false t s)
    (cond (eqb kind GET_INFO) (writes_first (ok_info b t) nothing s)
    (writes_first (ok t) nothing s)))))

abbrev pub unless : Option ℕ → Board → ℕ → ℕ → List ℕ → State → Done
unless (some code) b kind t p s = writes_first (err code t) nothing s
unless none b kind t p s = on_command b kind t p s

abbrev pub on_received : Board → Received → State → Done
on_received b damaged s = writes_first (err EFRAME 0) nothing s
on_received b (command kind t p) s = unless (error_of b s kind p) b kind t p s

-- a run that isn't empty opens a session if there is none, sets the liveness count to 0, and is judged; an empty one is nothing
abbrev pub on_run : Board → List ℕ → State → Done
on_run b [] s = does s [] nothing
on_run b (r ∷ rs) s = on_received b (received (r ∷ rs)) (with_link (link true 0 []) s)

-- A zero ends the run, and any other byte joins it. The list keeps a run of any length: of one over 282 bytes only the length counts.
abbrev pub on_byte : Board → ℕ → State → Done
on_byte b zero s = on_run b s.link.run s
on_byte b (suc n) s = does (with_link (link s.link.session s.link.ticks (s.link.run ++ (suc n ∷ []))) s) [] nothing

abbrev pub unless_stalled : Bool → Board → ℕ → State → Out
unless_stalled true b n s = refused STALL s
unless_stalled false b n s = taken (on_byte b n s)

-- ---- the ten events

abbrev pub on_event : Board → Event → State → Out
on_event b (byte n) s = unless_stalled (stalled s.air) b n s
on_event b tick s = taken (on_tick s)
on_event b clear s = on_clear s.air.radio s
on_event b busy s = on_busy s.air.radio s
on_event b (sent airtime) s = on_sent airtime s.air.radio s
on_event b configured s = on_configured s.air.radio s
on_event b fault s = taken (on_fault s.air.radio s)
on_event b (packet p) s = on_packet (s.inbox.receiving && free? s.air.radio) p s
on_event b request s = taken (on_request s.inbox.ring s)
on_event b disconnect s = taken (on_disconnect s.link.session s)

-- the least output that an event takes: the longest frame
abbrev pub room_min : ℕ
room_min = frame_max

abbrev pub unless_room : Bool → Board → Event → State → Out
unless_room true b e s = refused ROOM s
unless_room false b e s = on_event b e s

-- ROOM comes before all else
unfoldable pub step : Board → State → Input → Out
step b s i = unless_room (ltb i.room room_min) b i.event s

-- ---- the answer as it is seen from outside: the number, how many bytes were written, these bytes, the order

pub record Reply : Type 0 where
  pub number : ℕ
  pub count : ℕ
  pub bytes : List ℕ
  pub order : Order

abbrev pub reply : Out → Reply
reply o = record { number = o.number; count = length (messages_bytes o.written); bytes = messages_bytes o.written; order = o.order }
