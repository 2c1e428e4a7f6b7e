-- The device at 01's boundaries ("Sheet of known values", the line that is not starred) and on P's appendix C, by computing.
-- A command is given to the device as the bytes of its frame, and what is written are bytes: `sentAs` and `gives` make them of types, tags and messages.
-- Assumes nothing.
use Prim.Native.Nat.{ℕ, zero, suc}
use mathlib.Core.Path.{◌≡◌, refl}
use mathlib.Core.Bool.{Bool, true, false}
use mathlib.Core.List.{List, [], ◌∷◌, ◌++◌, map}
use mathlib.Core.Option.{none, some}
use lib.IntN.{pos, negsuc}
use lib.ListN.{length, replicate, drop}
use Rattle.status.specs.Numbers.{TAKEN, ROOM, STALL}
use Rattle.cobs.specs.Encoding.{encoded}
use Rattle.scalar.specs.Scalars.{column, put}
use Rattle.frame.specs.Body.{body}
use Rattle.kind.specs.Kinds.{PING, GET_INFO, SET_CONFIG, TX, RX_START, RX_STOP, EPARAM, ELENGTH, ENOTCONFIGURED}
use Rattle.kind.specs.Kinds.{EMODULATION, EUNKNOWN_CMD, EBUSY, ERADIO, EFRAME, TRANSMITTED, CHANNEL_BUSY, CANCELLED}
use Rattle.modulation.specs.Fsk.{fsk_of, fsk_bytes}
use Rattle.board.specs.Board.{Board, sx1262}
use Rattle.board.specs.Params.{fsk_good}
use Rattle.device.specs.State.{Packet, State, power_up, link, inbox, open#}
use Rattle.device.specs.State.{Event, byte, tick, clear, busy, sent, configured, fault, packet, request}
use Rattle.device.specs.State.{disconnect, Input, Order, nothing, standby, configure, transmit, receive}
use Rattle.device.specs.Messages.{Message, ok, ok_info, ok_configured, err, tx_done, message_bytes, messages_bytes}
use Rattle.device.specs.Frames.{error_of, setting_of}
use Rattle.device.specs.Events.{refused, step, Reply}
use Rattle.device.specs.Demands.{defined, history, answer}
use Rattle.device.specs.Scripts.{lent, bytes_in, sent_as, lora, ready}
use Rattle.device.proofs.Computing.{computes}

-- ---- events and answers

-- after some events from power-up: the state, and the answer to one more
abbrev state_after : List Input → State
state_after is = (history (defined sx1262) is).device

abbrev event_after : List Input → Event → Reply
event_after is e = answer (defined sx1262) (history (defined sx1262) is) (lent e)

-- the answer to the zero that ends a run, and to the one that ends a command
abbrev run_after : List Input → List ℕ → Reply
run_after is run = event_after (is ++ bytes_in run) (byte 0)

abbrev command_after : List Input → ℕ → ℕ → List ℕ → Reply
command_after is kind t p = run_after is (encoded (body kind t p))

-- the answer that has taken an event: messages and an order
abbrev gives : List Message → Order → Reply
gives ms o = record { number = TAKEN; count = length (messages_bytes ms); bytes = messages_bytes ms; order = o }

-- the payload of a TX with flags 0 and a packet of one byte (P C.3.1); with skip_cad
abbrev letter : List ℕ
letter = 0x00 ∷ 0x41 ∷ []

abbrev urgent : List ℕ
urgent = 0x01 ∷ 0x41 ∷ []

-- ---- 01's boundaries

-- with 16 open TX the 17th draws EBUSY
abbrev txs : ℕ → List Input
txs zero = []
txs (suc n) = txs n ++ sent_as TX (suc n) letter

pub sixteen : (open# (state_after (ready ++ txs 16)).air ≡ 16)
    × (command_after (ready ++ txs 15) TX 0x002B letter ≡ gives (ok 0x002B ∷ []) nothing)
    × (command_after (ready ++ txs 16) TX 0x002B letter ≡ gives (err EBUSY 0x002B ∷ []) nothing)
unfolding computes
sixteen = (refl, refl, refl)

-- the ring holds 64 packets, and the 65th loses one: n packets, told apart by their times from k on; the rest of them is P C.4.1's
abbrev packets : ℕ → ℕ → List Packet
packets k zero = []
packets k (suc n) =
    record { rssi = negsuc 819; snr = pos 80; freq_err = pos 0; timestamp_us = k; crc_valid = true; bytes = 0xAA ∷ 0xBB ∷ [] } ∷ packets (suc k) n

abbrev hears : List Packet → List Input
hears ps = ready ++ (sent_as RX_START 0x000A [] ++ map (λ p. lent (packet p)) ps)

pub ring : ((state_after (hears (packets 0 64))).inbox ≡ inbox true (packets 0 64) 0)
    × ((state_after (hears (packets 0 65))).inbox ≡ inbox true (packets 1 64) 1)
unfolding computes
ring = (refl, refl)

-- 999 ticks leave the session; with the 1000th the state is as at power-up, and the radio is put in standby
pub ticks : ((state_after (ready ++ replicate 999 (lent tick))).link ≡ link true 999 [])
    × (event_after (ready ++ replicate 999 (lent tick)) tick ≡ gives [] standby)
    × (state_after (ready ++ replicate 1000 (lent tick)) ≡ power_up)
unfolding computes
ticks = (refl, refl, refl)

-- power 22 is taken and 23 is EPARAM; at the other end -9, which is the byte F7, and -10
pub powers : (error_of sx1262 power_up SET_CONFIG (lora 7 0x16) ≡ none)
    × (error_of sx1262 power_up SET_CONFIG (lora 7 0x17) ≡ some EPARAM)
    × (error_of sx1262 power_up SET_CONFIG (lora 7 0xF7) ≡ none)
    × (error_of sx1262 power_up SET_CONFIG (lora 7 0xF6) ≡ some EPARAM)
unfolding computes
powers = (refl, refl, refl, refl)

-- the board's frequencies have both ends; cr, header, crc and iq at their ends: each as the byte that is changed in C.2.3's payload
pub params :
    (error_of sx1262 power_up SET_CONFIG (0x01 ∷ 0x80 ∷ 0xD1 ∷ 0xF0 ∷ 0x08 ∷ drop 5 (lora 7 14)) ≡ none)
    × (error_of sx1262 power_up SET_CONFIG (0x01 ∷ 0x00 ∷ 0x70 ∷ 0x38 ∷ 0x39 ∷ drop 5 (lora 7 14)) ≡ none)
    × (error_of sx1262 power_up SET_CONFIG (0x01 ∷ 0x01 ∷ 0x70 ∷ 0x38 ∷ 0x39 ∷ drop 5 (lora 7 14)) ≡ some EPARAM)
    × (error_of sx1262 power_up SET_CONFIG (put (column 7 1) 3 (lora 7 14)) ≡ none)
    × (error_of sx1262 power_up SET_CONFIG (put (column 7 1) 4 (lora 7 14)) ≡ some EPARAM)
    × (error_of sx1262 power_up SET_CONFIG (put (column 13 1) 2 (lora 7 14)) ≡ some EPARAM)
    × (error_of sx1262 power_up SET_CONFIG (put (column 14 1) 2 (lora 7 14)) ≡ some EPARAM)
    × (error_of sx1262 power_up SET_CONFIG (put (column 15 1) 1 (lora 7 14)) ≡ some EPARAM)
unfolding computes
params = (refl, refl, refl, refl, refl, refl, refl, refl)

-- RX_STOP needs a configuration; a PING has no payload; a TX has at most 255 bytes
pub sizes :
    (error_of sx1262 power_up RX_STOP [] ≡ some ENOTCONFIGURED)
    × (error_of sx1262 power_up PING (0x00 ∷ []) ≡ some ELENGTH)
    × (error_of sx1262 (state_after ready) TX (0x00 ∷ replicate 255 0x41) ≡ none)
    × (error_of sx1262 (state_after ready) TX (0x00 ∷ replicate 256 0x41) ≡ some ELENGTH)
unfolding computes
sizes = (refl, refl, refl, refl)

-- an output of 282 bytes is ROOM, and 283 are enough
pub room : ((b : Board) (s : State) (e : Event) → step b s (record { room = 282; event = e }) ≡ refused ROOM s)
    × ((b : Board) → (step b power_up (record { room = 283; event = tick })).number ≡ TAKEN)
unfolding computes
room = (λ b s e. refl, λ b. refl)

-- ---- P's appendix C

-- C.2.2: GET_INFO 0002
pub info :
    (run_after [] (0x03 ∷ 0x02 ∷ 0x02 ∷ 0x03 ∷ 0x9E ∷ 0xC4 ∷ [])).bytes
    ≡ 0x03 ∷ 0x80 ∷ 0x02 ∷ 0x02 ∷ 0x01 ∷ 0x01 ∷ 0x02 ∷ 0x01 ∷ 0x02 ∷ 0x02 ∷ 0x02 ∷ 0x03 ∷ 0x02 ∷ 0x01 ∷ 0x01 ∷ 0x01
    ∷ 0x01 ∷ 0x01 ∷ 0x06 ∷ 0xE0 ∷ 0x1F ∷ 0xFF ∷ 0x03 ∷ 0xFF ∷ 0x02 ∷ 0x40 ∷ 0x02 ∷ 0x10 ∷ 0x05 ∷ 0x80 ∷ 0xD1 ∷ 0xF0
    ∷ 0x08 ∷ 0x0F ∷ 0x70 ∷ 0x38 ∷ 0x39 ∷ 0xF7 ∷ 0x16 ∷ 0x08 ∷ 0xDE ∷ 0xAD ∷ 0xBE ∷ 0xEF ∷ 0x01 ∷ 0x23 ∷ 0x45 ∷ 0x67
    ∷ 0x03 ∷ 0xFA ∷ 0xA4 ∷ 0x00 ∷ []
unfolding computes
info = refl

-- C.2.4 and C.2.5: a TX listens first, unless skip_cad is set
pub starts : (command_after ready TX 0x0004 letter ≡ gives (ok 0x0004 ∷ []) (transmit (0x41 ∷ []) true))
    × (event_after (ready ++ (sent_as TX 0x0004 letter ++ (lent clear ∷ []))) (sent 30976) ≡ gives (tx_done TRANSMITTED 30976 0x0004 ∷ []) standby)
    × (command_after ready TX 0x0005 urgent ≡ gives (ok 0x0005 ∷ []) (transmit (0x41 ∷ []) false))
    × (event_after (ready ++ sent_as TX 0x0005 urgent) (sent 33792) ≡ gives (tx_done TRANSMITTED 33792 0x0005 ∷ []) standby)
unfolding computes
starts = (refl, refl, refl, refl)

-- C.4.1: the RX that goes out on request; a SET_CONFIG empties the ring; with its OK the radio receives again, by 02 §1, so that the second RX_START changes
-- nothing
abbrev reset : List Input
reset = hears (packets 50000000 1) ++ sent_as SET_CONFIG 0x000B (lora 9 14)

abbrev reset-ok : List ℕ
reset-ok =
    0x03 ∷ 0x80 ∷ 0x0B ∷ 0x01 ∷ 0x09 ∷ 0x01 ∷ 0x01 ∷ 0xA0 ∷ 0x27 ∷ 0xBE ∷ 0x33 ∷ 0x09 ∷ 0x07 ∷ 0x02 ∷ 0x08 ∷ 0x04
    ∷ 0x24 ∷ 0x14 ∷ 0x0E ∷ 0x02 ∷ 0x01 ∷ 0x03 ∷ 0x0B ∷ 0x7F ∷ 0x00 ∷ []

pub receives :
    ((event_after (hears (packets 50000000 1)) request).bytes
    ≡ 0x02 ∷ 0xC0 ∷ 0x01 ∷ 0x04 ∷ 0xCC ∷ 0xFC ∷ 0x50 ∷ 0x01 ∷ 0x01 ∷ 0x01 ∷ 0x01 ∷ 0x05 ∷ 0x80 ∷ 0xF0 ∷ 0xFA ∷ 0x02
    ∷ 0x01 ∷ 0x01 ∷ 0x01 ∷ 0x02 ∷ 0x01 ∷ 0x01 ∷ 0x01 ∷ 0x05 ∷ 0xAA ∷ 0xBB ∷ 0x54 ∷ 0xC0 ∷ 0x00 ∷ [])
    × ((state_after reset).inbox ≡ inbox true [] 0)
    × (event_after reset configured ≡ record { number = TAKEN; count = 25; bytes = reset-ok; order = receive })
    × (command_after (reset ++ (lent configured ∷ [])) RX_START 0x000C [] ≡ gives (ok 0x000C ∷ []) nothing)
unfolding computes
receives = (refl, refl, refl, refl)

-- C.4.2: a SET_CONFIG with two open TX, none on air, cancels both at once; its OK comes when the radio is configured
abbrev two : List Input
two = ready ++ (sent_as TX 0x0014 letter ++ sent_as TX 0x0015 letter)

pub cancels :
    ((command_after two SET_CONFIG 0x0016 (lora 10 14)).bytes
    ≡ (0x03 ∷ 0xC1 ∷ 0x14 ∷ 0x02 ∷ 0x02 ∷ 0x01 ∷ 0x01 ∷ 0x01 ∷ 0x03 ∷ 0x82 ∷ 0xCF ∷ 0x00 ∷ [])
    ++ (0x03 ∷ 0xC1 ∷ 0x15 ∷ 0x02 ∷ 0x02 ∷ 0x01 ∷ 0x01 ∷ 0x01 ∷ 0x03 ∷ 0xE3 ∷ 0x77 ∷ 0x00 ∷ []))
    × ((event_after (two ++ sent_as SET_CONFIG 0x0016 (lora 10 14)) configured).bytes
    ≡ 0x03 ∷ 0x80 ∷ 0x16 ∷ 0x01 ∷ 0x09 ∷ 0x01 ∷ 0x01 ∷ 0xA0 ∷ 0x27 ∷ 0xBE ∷ 0x33 ∷ 0x0A ∷ 0x07 ∷ 0x02 ∷ 0x08 ∷ 0x04
    ∷ 0x24 ∷ 0x14 ∷ 0x0E ∷ 0x02 ∷ 0x01 ∷ 0x03 ∷ 0x64 ∷ 0x32 ∷ 0x00 ∷ [])
unfolding computes
cancels = (refl, refl)

-- with the first of them on air it waits, and bytes stall; when that one is sent, its TX_DONE comes first
abbrev on_air_first : List Input
on_air_first = two ++ (lent clear ∷ [])

abbrev waiting : List Input
waiting = on_air_first ++ sent_as SET_CONFIG 0x0016 (lora 10 14)

pub waits : (command_after on_air_first SET_CONFIG 0x0016 (lora 10 14) ≡ gives [] nothing)
    × ((event_after waiting (byte 0x03)).number ≡ STALL)
    × (event_after waiting (sent 30976)
    ≡ gives (tx_done TRANSMITTED 30976 0x0014 ∷ tx_done CANCELLED 0 0x0015 ∷ []) (configure (setting_of 0x0016 (lora 10 14)).config false))
unfolding computes
waits = (refl, refl, refl)

-- C.4.3: a TX after the session's end
pub too-late : command_after (ready ++ replicate 1000 (lent tick)) TX 0x001F letter ≡ gives (err ENOTCONFIGURED 0x001F ∷ []) nothing
unfolding computes
too-late = refl

-- C.5.2 and C.5.6 to C.5.9
pub errors : (command_after ready TX 0x0029 (0x00 ∷ []) ≡ gives (err ELENGTH 0x0029 ∷ []) nothing)
    × (command_after ready 0x10 0x003C (0xDE ∷ 0xAD ∷ []) ≡ gives (err EUNKNOWN_CMD 0x003C ∷ []) nothing)
    × (command_after ready SET_CONFIG 0x0046 (0x01 ∷ replicate 10 0x00) ≡ gives (err ELENGTH 0x0046 ∷ []) nothing)
    × (command_after ready SET_CONFIG 0x0047 (0x01 ∷ 0x80 ∷ 0x08 ∷ 0x08 ∷ 0x92 ∷ drop 5 (lora 7 14)) ≡ gives (err EPARAM 0x0047 ∷ []) nothing)
    × (command_after ready SET_CONFIG 0x0048 (0x04 ∷ replicate 13 0x00) ≡ gives (err EMODULATION 0x0048 ∷ []) nothing)
unfolding computes
errors = (refl, refl, refl, refl, refl)

-- C.5 and C.6.4: the bytes of an ERR with each code, and of a TX_DONE with the results 0 and 1
pub codes :
    (message_bytes (err ELENGTH 0x0029) ≡ 0x03 ∷ 0x81 ∷ 0x29 ∷ 0x02 ∷ 0x02 ∷ 0x03 ∷ 0xD6 ∷ 0x3B ∷ 0x00 ∷ [])
    × (message_bytes (err EBUSY 0x002B) ≡ 0x03 ∷ 0x81 ∷ 0x2B ∷ 0x02 ∷ 0x06 ∷ 0x03 ∷ 0x7A ∷ 0x1A ∷ 0x00 ∷ [])
    × (message_bytes (err EUNKNOWN_CMD 0x003C) ≡ 0x03 ∷ 0x81 ∷ 0x3C ∷ 0x02 ∷ 0x05 ∷ 0x03 ∷ 0xA3 ∷ 0x05 ∷ 0x00 ∷ [])
    × (message_bytes (err EPARAM 0x0047) ≡ 0x03 ∷ 0x81 ∷ 0x47 ∷ 0x02 ∷ 0x01 ∷ 0x03 ∷ 0x0D ∷ 0x95 ∷ 0x00 ∷ [])
    × (message_bytes (err EMODULATION 0x0048) ≡ 0x03 ∷ 0x81 ∷ 0x48 ∷ 0x02 ∷ 0x04 ∷ 0x03 ∷ 0x16 ∷ 0xBE ∷ 0x00 ∷ [])
    × (message_bytes (err ERADIO 0x0049) ≡ 0x03 ∷ 0x81 ∷ 0x49 ∷ 0x05 ∷ 0x01 ∷ 0x01 ∷ 0x76 ∷ 0x27 ∷ 0x00 ∷ [])
    × (message_bytes (err EFRAME 0) ≡ 0x02 ∷ 0x81 ∷ 0x01 ∷ 0x05 ∷ 0x02 ∷ 0x01 ∷ 0xCE ∷ 0xEF ∷ 0x00 ∷ [])
    × (message_bytes (tx_done TRANSMITTED 30976 0x0033) ≡ 0x03 ∷ 0xC1 ∷ 0x33 ∷ 0x01 ∷ 0x01 ∷ 0x02 ∷ 0x79 ∷ 0x01 ∷ 0x03 ∷ 0x2A ∷ 0xBA ∷ 0x00 ∷ [])
    × (message_bytes (tx_done CHANNEL_BUSY 0 0x0032) ≡ 0x03 ∷ 0xC1 ∷ 0x32 ∷ 0x02 ∷ 0x01 ∷ 0x01 ∷ 0x01 ∷ 0x01 ∷ 0x03 ∷ 0x83 ∷ 0xEE ∷ 0x00 ∷ [])
unfolding computes
codes = (refl, refl, refl, refl, refl, refl, refl, refl, refl)

-- C.5.5: the channel is busy
pub channel-busy : event_after (ready ++ sent_as TX 0x0032 letter) busy ≡ gives (tx_done CHANNEL_BUSY 0 0x0032 ∷ []) standby
unfolding computes
channel-busy = refl

-- C.5.10: a fault while the radio is configured
pub radio-fault : event_after (sent_as SET_CONFIG 0x0049 (lora 7 14)) fault ≡ gives (err ERADIO 0x0049 ∷ []) standby
unfolding computes
radio-fault = refl

-- ---- 01's own rules

-- a damaged run: EFRAME with tag 0
pub damage : run_after [] (0x05 ∷ []) ≡ gives (err EFRAME 0 ∷ []) nothing
unfolding computes
damage = refl

-- a tag of zero is damage on a type that is none of the six, too
pub untagged : command_after [] 0x10 0 [] ≡ gives (err EFRAME 0 ∷ []) nothing
unfolding computes
untagged = refl

-- a run of 283 bytes is silent up to its zero, and then damaged; an empty one is nothing; a disconnect with no session empties the run
pub runs : (event_after (bytes_in (replicate 282 0x01)) (byte 0x01) ≡ gives [] nothing)
    × (run_after [] (replicate 283 0x01) ≡ gives (err EFRAME 0 ∷ []) nothing)
    × (state_after (bytes_in (0x00 ∷ [])) ≡ power_up)
    × (state_after (bytes_in (0x03 ∷ []) ++ (lent disconnect ∷ [])) ≡ power_up)
unfolding computes
runs = (refl, refl, refl, refl)

-- the order of the steps: 3 before 5, 5 before 4 where SET_CONFIG is empty, 6 before 7
pub steps : (command_after [] TX 0x0029 [] ≡ gives (err ENOTCONFIGURED 0x0029 ∷ []) nothing)
    × (command_after [] SET_CONFIG 0x0046 [] ≡ gives (err ELENGTH 0x0046 ∷ []) nothing)
    × (command_after (ready ++ txs 16) TX 0x002B (0x02 ∷ 0x41 ∷ []) ≡ gives (err EPARAM 0x002B ∷ []) nothing)
unfolding computes
steps = (refl, refl, refl)

-- PING and GET_INFO order nothing, and are answered in every state
pub asks : (command_after ready PING 0x0001 [] ≡ gives (ok 0x0001 ∷ []) nothing)
    × (command_after ready GET_INFO 0x0002 [] ≡ gives (ok_info sx1262 0x0002 ∷ []) nothing)
unfolding computes
asks = (refl, refl)

-- clear orders nothing; under FSK no TX listens
abbrev fsk : List ℕ
fsk = 0x02 ∷ 0xA0 ∷ 0x27 ∷ 0xBE ∷ 0x33 ∷ replicate 12 0x00

pub channels : (event_after (ready ++ sent_as TX 0x0004 letter) clear ≡ gives [] nothing)
    × (command_after (sent_as SET_CONFIG 0x0003 fsk ++ (lent configured ∷ [])) TX 0x0004 letter ≡ gives (ok 0x0004 ∷ []) (transmit (0x41 ∷ []) false))
unfolding computes fsk_of fsk_bytes fsk_good
channels = (refl, refl)

-- a fault while the radio is configured leaves the device UNCONFIGURED
pub unconfigures : command_after (ready ++ (sent_as SET_CONFIG 0x0049 (lora 7 14) ++ (lent fault ∷ []))) TX 0x0004 letter
    ≡ gives (err ENOTCONFIGURED 0x0004 ∷ []) nothing
unfolding computes
unconfigures = refl

-- SET_CONFIG: the order to configure has the parameters and LDRO; when it is done there is no order
pub configures : (command_after [] SET_CONFIG 0x0003 (lora 12 14) ≡ gives [] (configure (setting_of 0x0003 (lora 12 14)).config true))
    × (event_after (sent_as SET_CONFIG 0x0003 (lora 7 14)) configured ≡ gives (ok_configured (setting_of 0x0003 (lora 7 14)) ∷ []) nothing)
unfolding computes
configures = (refl, refl)

-- RX_START and RX_STOP: an order for a change, if the radio is free; else it comes after the TX
abbrev listens : List Input
listens = ready ++ sent_as RX_START 0x000A []

pub turns : (command_after ready RX_START 0x000A [] ≡ gives (ok 0x000A ∷ []) receive)
    × (command_after listens RX_START 0x000B [] ≡ gives (ok 0x000B ∷ []) nothing)
    × (command_after listens RX_STOP 0x000B [] ≡ gives (ok 0x000B ∷ []) standby)
    × (command_after (ready ++ sent_as TX 0x0005 urgent) RX_START 0x000A [] ≡ gives (ok 0x000A ∷ []) nothing)
    × (event_after (listens ++ sent_as TX 0x0005 urgent) (sent 33792) ≡ gives (tx_done TRANSMITTED 33792 0x0005 ∷ []) receive)
unfolding computes
turns = (refl, refl, refl, refl, refl)

-- a packet of 255 bytes stays as it is, and a longer one is cut
abbrev long : ℕ → Bool → Packet
long n valid = record { rssi = pos 0; snr = pos 0; freq_err = pos 0; timestamp_us = 0; crc_valid = valid; bytes = replicate n 0xAA }

pub cut : ((state_after (hears (long 255 true ∷ []))).inbox.ring ≡ long 255 true ∷ [])
    × ((state_after (hears (long 256 true ∷ []))).inbox.ring ≡ long 255 false ∷ [])
unfolding computes
cut = (refl, refl)

-- a fault: on air, with one that waits; with a free radio; with neither session nor TX
pub faults : (event_after (ready ++ (sent_as TX 0x0005 urgent ++ sent_as TX 0x0006 urgent)) fault
    ≡ gives (err ERADIO 0 ∷ tx_done CANCELLED 0 0x0005 ∷ []) (transmit (0x41 ∷ []) false))
    × (event_after listens fault ≡ gives (err ERADIO 0 ∷ []) receive)
    × (event_after [] fault ≡ gives [] standby)
unfolding computes
faults = (refl, refl, refl)

-- a session's end while the radio listens, is configured, or with none open
pub ends : (event_after (ready ++ sent_as TX 0x0004 letter) disconnect ≡ gives [] standby)
    × (event_after (sent_as SET_CONFIG 0x0003 (lora 7 14)) disconnect ≡ gives [] nothing)
    × (event_after (sent_as SET_CONFIG 0x0003 (lora 7 14) ++ (lent disconnect ∷ [])) configured ≡ gives [] standby)
    × ((event_after (sent_as SET_CONFIG 0x0003 (lora 7 14) ++ (lent disconnect ∷ [])) (byte 0x03)).number ≡ STALL)
    × (event_after [] disconnect ≡ gives [] nothing)
unfolding computes
ends = (refl, refl, refl, refl, refl)

-- an orphan: no order at the session's end, and nothing written when it has been sent; a SET_CONFIG of the next session waits for it
abbrev alone : List Input
alone = ready ++ sent_as TX 0x0005 urgent

abbrev orphaned : List Input
orphaned = alone ++ (lent disconnect ∷ [])

pub orphans : (event_after alone disconnect ≡ gives [] nothing)
    × (event_after orphaned (sent 33792) ≡ gives [] standby)
    × (command_after orphaned SET_CONFIG 0x0016 (lora 10 14) ≡ gives [] nothing)
    × (event_after (orphaned ++ sent_as SET_CONFIG 0x0016 (lora 10 14)) (sent 33792) ≡ gives [] (configure (setting_of 0x0016 (lora 10 14)).config false))
unfolding computes
orphans = (refl, refl, refl, refl)
