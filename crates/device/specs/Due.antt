-- What is due at an event, by what the observer knows: the number, the messages and the order. 01 "Numbers that come back", "A run of bytes becomes a frame"
-- and "What each event does", told from outside. Of the device only the types and P's error codes are used here: each rule is said once more, with the papers'
-- own numbers, and the demands hold the device to it.
-- Assumes nothing.
use Rattle.std.specs.Prelude.{ℕ, zero, suc, ◌+◌, min, Bool, true, false, cond, not, ◌&&◌, ◌||◌, List, [], ◌∷◌, ◌++◌, leb, ltb, eqb, length}
use Rattle.std.proofs.Math.Option.{Option, none, some}
use Rattle.status.specs.Numbers.{TAKEN, ROOM, STALL, PLACE}
use Rattle.scalar.specs.Scalars.{get}
use Rattle.kind.specs.Kinds.{PING, GET_INFO, SET_CONFIG, TX, RX_START, RX_STOP, EPARAM, ELENGTH}
use Rattle.kind.specs.Kinds.{ENOTCONFIGURED, EMODULATION, EUNKNOWN_CMD, EBUSY, ERADIO, EFRAME}
use Rattle.modulation.specs.Lora.{lora_size}
use Rattle.modulation.specs.Fsk.{fsk_size, sync_word_len}
use Rattle.modulation.specs.Modulations.{LORA, FSK, modulation_id, config_of}
use Rattle.modulation.specs.declared.Modulation.{Modulation}
use Rattle.modulation.specs.declared.Modulation.TheVariants as M
use Rattle.command.specs.Commands.{flags}
use Rattle.answer.specs.declared.Answer.TheVariants as A
use Rattle.board.specs.Board.{Board, board_info, uids_of}
use Rattle.board.specs.Params.{params_good}
use Rattle.board.specs.Ldro.{ldro}
use Rattle.device.specs.State.{Config, Setting, Tx, RadioOf, Radio, free, listening, on_air, orphan, configuring, Packet, Air}
use Rattle.device.specs.State.{Event, byte, tick, clear, busy, sent, configured, fault, packet, request}
use Rattle.device.specs.State.{disconnect, Order, nothing, standby, configure, transmit, receive}
use Rattle.device.specs.Messages.{Message, message}
use Rattle.device.specs.Frames.{Received, damaged, command}
use Rattle.device.specs.Reading.{brings}
use Rattle.device.specs.Tally.{Tally, if_taken}
use Rattle.device.specs.Observer.{Observer, tx_in, setting_in, tick_ends}

-- ---- the number

-- what the radio does
abbrev pub is_free : {C : Type 0} → RadioOf C → Bool
is_free free = true
is_free (listening t) = false
is_free (on_air t) = false
is_free orphan = false
is_free (configuring c) = false

abbrev pub is_listening : {C : Type 0} → RadioOf C → Bool
is_listening free = false
is_listening (listening t) = true
is_listening (on_air t) = false
is_listening orphan = false
is_listening (configuring c) = false

abbrev pub is_on_air : {C : Type 0} → RadioOf C → Bool
is_on_air free = false
is_on_air (listening t) = false
is_on_air (on_air t) = true
is_on_air orphan = true
is_on_air (configuring c) = false

abbrev pub is_configuring : {C : Type 0} → RadioOf C → Bool
is_configuring free = false
is_configuring (listening t) = false
is_configuring (on_air t) = false
is_configuring orphan = false
is_configuring (configuring c) = true

-- a SET_CONFIG waits or runs
abbrev pub reconfiguring : Option Setting → Radio → Bool
reconfiguring none r = is_configuring r
reconfiguring (some c) r = true

-- Whether a radio outcome fits, by the radio and whether receiving is on: 01 "What each event does". The other events are none.
abbrev pub fits : {C : Type 0} → Event → RadioOf C → Bool → Bool
fits (byte n) r on = true
fits tick r on = true
fits clear r on = is_listening r
fits busy r on = is_listening r
fits (sent airtime) r on = is_on_air r
fits configured r on = is_configuring r
fits fault r on = true
fits (packet p) r on = on && is_free r
fits request r on = true
fits disconnect r on = true

abbrev pub byte? : Event → Bool
byte? (byte n) = true
byte? tick = false
byte? clear = false
byte? busy = false
byte? (sent airtime) = false
byte? configured = false
byte? fault = false
byte? (packet p) = false
byte? request = false
byte? disconnect = false

-- the three causes of refusal, the first that applies: room is the length of the output that is lent, and wait says whether a SET_CONFIG waits or runs
abbrev pub cause : {C : Type 0} → ℕ → Bool → RadioOf C → Bool → Event → ℕ
cause room wait r on e =
    cond (ltb room 283) ROOM
    (cond (byte? e && wait) STALL
    (cond (not (fits e r on)) PLACE
    TAKEN))

abbrev pub number_due : ℕ → Event → Observer → ℕ
number_due room e k = cause room (reconfiguring k.air.pending k.air.radio) k.air.radio k.inbox.receiving e

-- ---- the error that a command draws, by its type: P 6.1 to 6.6 and 10; which comes first is 01's steps 2 to 7

-- PING, GET_INFO, RX_START, RX_STOP
abbrev pub payload_error : List ℕ → Option ℕ
payload_error [] = none
payload_error (x ∷ xs) = some ELENGTH

-- a size that is right or not, and then values that are good or not
abbrev pub value_error : Bool → Bool → Option ℕ
value_error false good = some ELENGTH
value_error true false = some EPARAM
value_error true true = none

-- SET_CONFIG: the modulation, and then 15 bytes for LoRa, 16 and the sync word for FSK
abbrev pub config_error : Board → List ℕ → Option ℕ
config_error b [] = some ELENGTH
config_error b (m ∷ ps) =
    cond (eqb (get modulation_id (m ∷ ps)) LORA) (value_error (eqb (length ps) lora_size) (params_good b (config_of (m ∷ ps))))
    (cond (eqb (get modulation_id (m ∷ ps)) FSK)
    (value_error (leb fsk_size (length ps) && eqb (length ps) (fsk_size + get sync_word_len ps)) (params_good b (config_of (m ∷ ps))))
    (some EMODULATION))

-- TX: a packet of 1 to 255 bytes, flags of 0 or 1, and not 16 open already; n are
abbrev pub tx_error : ℕ → List ℕ → Option ℕ
tx_error n [] = some ELENGTH
tx_error n (f ∷ bs) =
    cond (leb 1 (length bs) && leb (length bs) 255)
    (cond (leb (get flags (f ∷ bs)) 1)
    (cond (leb 16 n) (some EBUSY) none)
    (some EPARAM))
    (some ELENGTH)

-- the commands that need a configuration
abbrev pub unless_configured : Option Config → Option ℕ → Option ℕ
unless_configured none e = some ENOTCONFIGURED
unless_configured (some c) e = e

abbrev pub command_error : Board → Option Config → ℕ → ℕ → List ℕ → Option ℕ
command_error b config n kind p =
    cond (eqb kind PING) (payload_error p)
    (cond (eqb kind GET_INFO) (payload_error p)
    (cond (eqb kind SET_CONFIG) (config_error b p)
    (cond (eqb kind TX) (unless_configured config (tx_error n p))
    (cond (eqb kind RX_START) (unless_configured config (payload_error p))
    (cond (eqb kind RX_STOP) (unless_configured config (payload_error p))
    (some EUNKNOWN_CMD))))))

-- ---- what a byte brings

-- nothing, where it ends no run; damage, where its run fails step 1; a command that draws an error, with its tag; a command that is carried out
pub data Brought : Type 0 where
  no_frame : Brought
  damage : Brought
  wrong : ℕ → ℕ → Brought
  right : ℕ → ℕ → List ℕ → Brought

-- how many TX are open
abbrev pub opened : Radio → List Tx → ℕ
opened free ws = length ws
opened (listening t) ws = suc (length ws)
opened (on_air t) ws = suc (length ws)
opened orphan ws = length ws
opened (configuring c) ws = length ws

abbrev pub unless_error : Option ℕ → ℕ → ℕ → List ℕ → Brought
unless_error (some code) kind t p = wrong code t
unless_error none kind t p = right kind t p

abbrev pub brought_by : Board → Received → Observer → Brought
brought_by b damaged k = damage
brought_by b (command kind t p) k = unless_error (command_error b k.config (opened k.air.radio k.air.waiting) kind p) kind t p

abbrev pub run_brings : Board → List ℕ → Observer → Brought
run_brings b [] k = no_frame
run_brings b (r ∷ rs) k = brought_by b (brings (r ∷ rs)) k

abbrev pub byte_brings : Board → ℕ → List ℕ → Observer → Brought
byte_brings b zero run k = run_brings b run k
byte_brings b (suc n) run k = no_frame

-- ---- OK and ERR

abbrev pub err_due : ℕ → ℕ → Message
err_due code t = message t (A.Err code) []

-- a SET_CONFIG that is taken is not answered yet
abbrev pub brought_answer : Board → Brought → List Message
brought_answer b no_frame = []
brought_answer b damage = err_due EFRAME 0 ∷ []
brought_answer b (wrong code t) = err_due code t ∷ []
brought_answer b (right kind t p) =
    cond (eqb kind SET_CONFIG) []
    (cond (eqb kind GET_INFO) (message t (A.Info (board_info b)) (uids_of b) ∷ [])
    (message t A.Ok [] ∷ []))

-- of the SET_CONFIG that runs: OK with result 0, owner 1 and its parameters
abbrev pub configured_answer : Radio → List Message
configured_answer free = []
configured_answer (listening t) = []
configured_answer (on_air t) = []
configured_answer orphan = []
configured_answer (configuring c) =
    message c.tag (A.Configured (record { result = 0; owner = 1; current = c.config.modulation })) c.config.word ∷ []

-- of a fault: with the tag of the SET_CONFIG that runs, or 0
abbrev pub fault_answer : Radio → List Message
fault_answer free = err_due ERADIO 0 ∷ []
fault_answer (listening t) = err_due ERADIO 0 ∷ []
fault_answer (on_air t) = err_due ERADIO 0 ∷ []
fault_answer orphan = err_due ERADIO 0 ∷ []
fault_answer (configuring c) = err_due ERADIO c.tag ∷ []

-- the last two only while a session is open
abbrev pub in_session : Bool → List Message → List Message
in_session true ms = ms
in_session false ms = []

abbrev pub answers_due : Board → Event → Tally → Observer → List Message
answers_due b (byte n) t k = brought_answer b (byte_brings b n t.run k)
answers_due b tick t k = []
answers_due b clear t k = []
answers_due b busy t k = []
answers_due b (sent airtime) t k = []
answers_due b configured t k = in_session t.session (configured_answer k.air.radio)
answers_due b fault t k = in_session t.session (fault_answer k.air.radio)
answers_due b (packet p) t k = []
answers_due b request t k = []
answers_due b disconnect t k = []

-- ---- TX_DONE: transmitted is (0, airtime), channel busy (1, 0), cancelled (2, 0)

abbrev pub done_due : ℕ → ℕ → ℕ → Message
done_due result airtime t = message t (A.TxDone result airtime) []

-- of the TX with the radio, if any
abbrev pub radio_report : ℕ → ℕ → Radio → List Message
radio_report result airtime free = []
radio_report result airtime (listening t) = done_due result airtime t ∷ []
radio_report result airtime (on_air t) = done_due result airtime t ∷ []
radio_report result airtime orphan = []
radio_report result airtime (configuring c) = []

abbrev pub cancels : List Tx → List Message
cancels [] = []
cancels (x ∷ xs) = done_due 2 0 x.tag ∷ cancels xs

-- after a TX has ended, a SET_CONFIG that waits cancels those that wait
abbrev pub cancels_after : Option Setting → List Tx → List Message
cancels_after none ws = []
cancels_after (some c) ws = cancels ws

abbrev pub end_reports : ℕ → ℕ → Air → List Message
end_reports result airtime a = radio_report result airtime a.radio ++ cancels_after a.pending a.waiting

-- a SET_CONFIG that is taken cancels all that are open, unless one is on air
abbrev pub set_reports : Air → List Message
set_reports a = cond (is_on_air a.radio) [] (radio_report 2 0 a.radio ++ cancels a.waiting)

abbrev pub brought_reports : Brought → Air → List Message
brought_reports no_frame a = []
brought_reports damage a = []
brought_reports (wrong code t) a = []
brought_reports (right kind t p) a = cond (eqb kind SET_CONFIG) (set_reports a) []

abbrev pub reports_due : Board → Event → Tally → Observer → List Message
reports_due b (byte n) t k = brought_reports (byte_brings b n t.run k) k.air
reports_due b tick t k = []
reports_due b clear t k = []
reports_due b busy t k = end_reports 1 0 k.air
reports_due b (sent airtime) t k = end_reports 0 airtime k.air
reports_due b configured t k = []
reports_due b fault t k = cond (is_configuring k.air.radio) [] (end_reports 2 0 k.air)
reports_due b (packet p) t k = []
reports_due b request t k = []
reports_due b disconnect t k = []

-- ---- RX: the oldest packet held, with all that its event brought, and how many were lost, up to 65,535

abbrev pub oldest : List Packet → ℕ → List Message
oldest [] lost = []
oldest (p ∷ ps) lost =
    message 0
    (A.Rx
    (record {
      rssi = p.rssi;
      snr = p.snr;
      freq_err = p.freq_err;
      timestamp_us = p.timestamp_us;
      crc_valid = cond p.crc_valid 1 0;
      packets_dropped = min lost 65535;
      origin = 0;
    }))
    p.bytes
    ∷ []

abbrev pub deliveries_due : Event → Observer → List Message
deliveries_due (byte n) k = []
deliveries_due tick k = []
deliveries_due clear k = []
deliveries_due busy k = []
deliveries_due (sent airtime) k = []
deliveries_due configured k = []
deliveries_due fault k = []
deliveries_due (packet p) k = []
deliveries_due request k = oldest k.inbox.ring k.inbox.drops
deliveries_due disconnect k = []

-- ---- the messages of an event: a refused one writes none

unfoldable pub messages_due : Board → ℕ → Event → Tally → Observer → List Message
messages_due b number e t k = if_taken number (deliveries_due e k ++ (answers_due b e t k ++ reports_due b e t k)) []

-- ---- the order

-- a TX that starts listens first under LoRa, with skip_cad 0
abbrev pub lora? : Modulation → Bool
lora? (M.Lora m) = true
lora? (M.Fsk m) = false

abbrev pub listens_first : Option Config → ℕ → Bool
listens_first none f = false
listens_first (some c) f = lora? c.modulation && eqb f 0

-- the packet of a TX, unchanged; the parameters of a SET_CONFIG, and LDRO for them
abbrev pub transmits : Tx → Option Config → Order
transmits x config = transmit x.packet (listens_first config x.flags)

abbrev pub configures : Setting → Order
configures c = configure c.config (ldro c.config.modulation)

-- nothing to send
abbrev pub rests : Bool → Order
rests true = receive
rests false = standby

-- after a TX has ended: a SET_CONFIG that waits, or else the oldest TX that waits, or else receive or standby
abbrev pub end_order : Option Setting → List Tx → Observer → Order
end_order (some c) ws k = configures c
end_order none (x ∷ xs) k = transmits x k.config
end_order none [] k = rests k.inbox.receiving

-- what only a free radio is told
abbrev pub if_free : Radio → Order → Order
if_free free o = o
if_free (listening t) o = nothing
if_free (on_air t) o = nothing
if_free orphan o = nothing
if_free (configuring c) o = nothing

abbrev pub brought_order : Brought → Observer → Order
brought_order no_frame k = nothing
brought_order damage k = nothing
brought_order (wrong code t) k = nothing
brought_order (right kind t p) k =
    cond (eqb kind SET_CONFIG) (configures (setting_in t p))
    (cond (eqb kind TX) (if_free k.air.radio (transmits (tx_in t p) k.config))
    (cond (eqb kind RX_START) (if_free k.air.radio (cond k.inbox.receiving nothing receive))
    (cond (eqb kind RX_STOP) (if_free k.air.radio (cond k.inbox.receiving standby nothing))
    nothing)))

-- by each event; configured by 02 §1, P 3.5 and 6.3: the radio that was receiving receives again
abbrev pub event_order : Board → Event → Tally → Observer → Order
event_order b (byte n) t k = brought_order (byte_brings b n t.run k) k
event_order b tick t k = cond (tick_ends t) standby nothing
event_order b clear t k = nothing
event_order b busy t k = end_order k.air.pending k.air.waiting k
event_order b (sent airtime) t k = end_order k.air.pending k.air.waiting k
event_order b configured t k = cond t.session (cond k.inbox.receiving receive nothing) standby
event_order b fault t k = cond (is_configuring k.air.radio) standby (end_order k.air.pending k.air.waiting k)
event_order b (packet p) t k = nothing
event_order b request t k = nothing
event_order b disconnect t k = cond t.session standby nothing

-- the radio is on air, or is being configured; and the events that end that
abbrev pub at_work : Radio → Bool
at_work r = is_on_air r || is_configuring r

abbrev pub ends_work : Event → Bool
ends_work (byte n) = false
ends_work tick = false
ends_work clear = false
ends_work busy = false
ends_work (sent airtime) = true
ends_work configured = true
ends_work fault = true
ends_work (packet p) = false
ends_work request = false
ends_work disconnect = false

-- While the radio is at work it is given no order before its end. A refused event orders nothing.
unfoldable pub order_due : Board → ℕ → Event → Tally → Observer → Order
order_due b number e t k =
    if_taken number (cond (at_work k.air.radio && not (ends_work e)) nothing (event_order b e t k)) nothing
