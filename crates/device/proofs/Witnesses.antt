-- The demands on single histories, by computing: the number of an event, what is written and ordered, demand 3 and the drop count. They follow from the
-- theorems; here the wrong devices of must-fail/ are seen to break what is demanded, and not only its proof: each has another value where one of these has its
-- own.
-- Assumes nothing.
use Prim.Native.Nat.{ℕ, zero, suc}
use mathlib.Core.Path.{◌≡◌, refl}
use mathlib.Core.Bool.{Bool, true, false}
use mathlib.Core.List.{List, [], ◌∷◌, ◌++◌, map}
use mathlib.Core.Option.{none, some}
use lib.Dec.{leb}
use lib.IntN.{pos, negsuc}
use lib.ListN.{length, replicate}
use Rattle.cobs.specs.Encoding.{encoded}
use Rattle.frame.specs.Body.{body}
use Rattle.kind.specs.Kinds.{PING, GET_INFO, SET_CONFIG, TX, RX_START, RX_STOP, ENOTCONFIGURED, ERADIO, EFRAME}
use Rattle.answer.specs.declared.Answer.TheVariants as A
use Rattle.board.specs.Board.{sx1262, board_info, uids_of}
use Rattle.device.specs.State.{Config, Packet, state, link, air, inbox, free, Event, byte, tick, busy, sent, configured}
use Rattle.device.specs.State.{fault, packet, request, disconnect, Input, Order, nothing, standby, configure, transmit, receive}
use Rattle.device.specs.Messages.{Message, message, messages_bytes}
use Rattle.device.specs.Events.{Reply}
use Rattle.device.specs.Reading.{frames}
use Rattle.device.specs.Tally.{tally, Entry, entry, with_radio, waits, dones, newly_reported}
use Rattle.device.specs.Observer.{observer, setting_in}
use Rattle.device.specs.Due.{number_due, err_due, done_due, messages_due, order_due}
use Rattle.device.specs.Demands.{System, History, defined, onward, after, begins, history, answer, Closed}
use Rattle.device.specs.Demands.{was_reported, was_dropped, closed, with_radio_of, waiting_of, drop_counts}
use Rattle.device.specs.Scripts.{lent, bytes_in, sent_as, lora, ready}
use Rattle.device.proofs.Computing.{computes}

-- the defined device with the board of P C.2.2
abbrev device : System
device = defined sx1262

-- What is compared is one record for each history, by a definition that is opened here alone: so the history is computed once. They begin at power-up, or after
-- the events `ready` by which a device is configured, whose history is computed first. Of a wrong device for which that is another one, those that begin at
-- power-up speak.

abbrev fresh : History device
fresh = begins device

abbrev config : Config
config = (setting_in 3 (lora 7 14)).config

-- the OK to a SET_CONFIG for LoRa, by its tag and its payload
abbrev confirms : ℕ → List ℕ → Message
confirms t p = message t (A.Configured (record { result = 0; owner = 1; current = (setting_in t p).config.modulation })) []

abbrev set_up : History device
set_up =
    record {
      device = state (some config) (link true 0 []) (air free [] none) (inbox false [] 0);
      tally = tally [] true 0 false [];
      observer = observer (some config) (air free [] none) (inbox false [] 0);
      bytes = messages_bytes (confirms 3 (lora 7 14) ∷ []);
    }

pub is-set-up : history device ready ≡ set_up
unfolding computes
is-set-up = refl

-- ---- demand 1 and what is written and ordered, at one event more

-- the answer, and what is due: `demand1-seen`, `contents`
pub record Answered : Type 0 where
  answers : Reply
  number : ℕ
  messages : List Message
  order : Order

unfoldable pub answered : History device → Event → Answered
answered h e =
    let r = answer device h (lent e) in
    record {
      answers = r;
      number = number_due 283 e h.observer;
      messages = messages_due sx1262 r.number e h.tally h.observer;
      order = order_due sx1262 r.number e h.tally h.observer;
    }

-- The number is n, the bytes and their count are those of these messages, and this is the order; and so is what is due.
abbrev given : ℕ → List Message → Order → Answered
given n ms o =
    let bs = messages_bytes ms in
    record { answers = record { number = n; count = length bs; bytes = bs; order = o }; number = n; messages = ms; order = o }

-- after these events more
abbrev Answers : History device → List Input → Event → ℕ → List Message → Order → Type 0
Answers h is e n ms o = answered (after device h is) e ≡ given n ms o

-- it is taken, or refused
abbrev Gives : History device → List Input → Event → List Message → Order → Type 0
Gives h is e ms o = Answers h is e 0 ms o

abbrev Refuses : History device → List Input → Event → ℕ → Type 0
Refuses h is e n = Answers h is e n [] nothing

-- ---- the clauses of demand 3

-- `each`, at one event more: both are the tags ts
pub record Reported : Type 0 where
  written : List ℕ
  tallied : List ℕ

unfoldable pub reported : History device → Event → Reported
reported h e =
    record { written = dones (frames (answer device h (lent e)).bytes); tallied = newly_reported h.tally.txs (onward device h (lent e)).tally.txs }

abbrev Reports : History device → List Input → Event → List ℕ → Type 0
Reports h is e ts = reported (after device h is) e ≡ record { written = ts; tallied = ts }

-- `places`: these are reported or dropped, and the device has these open
pub record Placed : Type 0 where
  tallied : List Entry
  device : List Entry

abbrev opens : History device → List Entry
opens h = with_radio_of device h.device ++ waiting_of device h.device

unfoldable pub placed : History device → Placed
placed h = record { tallied = h.tally.txs; device = opens h }

abbrev Places : History device → List Input → List Closed → List Entry → Type 0
Places h is before now = placed (after device h is) ≡ record { tallied = map closed before ++ now; device = now }

-- `few`
abbrev bounded : History device → Bool
bounded h = leb (length (opens h)) 16

-- ---- scripts

-- a TX with skip_cad: on air at once, if the radio is free
abbrev tx : ℕ → List Input
tx t = sent_as TX t (0x01 ∷ 0x41 ∷ [])

-- the TX 20 on air, the TX 21 waiting
abbrev two : List Input
two = tx 20 ++ tx 21

abbrev txs : ℕ → List Input
txs zero = []
txs (suc n) = txs n ++ tx (suc n)

-- two packets: a quiet one, and one over 255 bytes
abbrev quiet : Packet
quiet = record { rssi = negsuc 819; snr = pos 80; freq_err = pos 7; timestamp_us = 50000000; crc_valid = true; bytes = 0xAA ∷ [] }

abbrev long : Packet
long = record { rssi = pos 0; snr = pos 0; freq_err = pos 0; timestamp_us = 0; crc_valid = true; bytes = replicate 256 0xBB }

abbrev hears : List Packet → List Input
hears ps = sent_as RX_START 10 [] ++ map (λ p. lent (packet p)) ps

-- ---- what is written and ordered

abbrev ok : ℕ → Message
ok t = message t A.Ok []

-- the zero that ends a command
abbrev Command : History device → List Input → ℕ → ℕ → List ℕ → List Message → Order → Type 0
Command h is kind t p ms o = Gives h (is ++ bytes_in (encoded (body kind t p))) (byte 0) ms o

-- TX: a packet of 70 bytes goes on air unchanged, with skip_cad at once; without it the radio listens first under LoRa; without a payload, before any
-- SET_CONFIG
pub transmits :
    Command set_up [] TX 20 (0x01 ∷ replicate 70 0x41) (ok 20 ∷ []) (transmit (replicate 70 0x41) false)
    × Command set_up [] TX 20 (0x00 ∷ 0x41 ∷ []) (ok 20 ∷ []) (transmit (0x41 ∷ []) true)
    × Command fresh [] TX 20 [] (err_due ENOTCONFIGURED 20 ∷ []) nothing
unfolding computes answered
transmits = (refl, refl, refl)

-- the outcomes of a TX: sent, with one that waits; a busy channel; a fault
pub outcomes :
    Gives set_up two (sent 33792) (done_due 0 33792 20 ∷ []) (transmit (0x41 ∷ []) false)
    × Gives set_up (sent_as TX 20 (0x00 ∷ 0x41 ∷ [])) busy (done_due 1 0 20 ∷ []) standby
    × Gives set_up (tx 20) fault (err_due ERADIO 0 ∷ done_due 2 0 20 ∷ []) standby
unfolding computes answered
outcomes = (refl, refl, refl)

-- SET_CONFIG: it orders its parameters and LDRO, and has no answer yet; its OK comes when the radio is configured; but where its session has ended, nothing is
-- said
pub configures :
    Command fresh [] SET_CONFIG 3 (lora 12 14) [] (configure (setting_in 3 (lora 12 14)).config true)
    × Gives fresh (sent_as SET_CONFIG 3 (lora 12 14)) configured (confirms 3 (lora 12 14) ∷ []) nothing
    × Gives fresh (sent_as SET_CONFIG 3 (lora 12 14) ++ (lent disconnect ∷ [])) configured [] standby
unfolding computes answered
configures = (refl, refl, refl)

-- a device that receives is set again: when the radio is configured it receives again, also where the SET_CONFIG came while a TX was on air; but not where its
-- session has ended, and not after a fault while it was configured, when the next SET_CONFIG is in force
abbrev again : List Input
again = sent_as SET_CONFIG 22 (lora 9 14)

pub rearms :
    Gives set_up (hears [] ++ again) configured (confirms 22 (lora 9 14) ∷ []) receive
    × Gives set_up (hears [] ++ (tx 20 ++ (again ++ (lent (sent 33792) ∷ [])))) configured (confirms 22 (lora 9 14) ∷ []) receive
    × Gives set_up (hears [] ++ (again ++ (lent disconnect ∷ []))) configured [] standby
    × Gives set_up (hears [] ++ (again ++ (lent fault ∷ again))) configured (confirms 22 (lora 9 14) ∷ []) nothing
unfolding computes answered
rearms = (refl, refl, refl, refl)

-- a PING without its zero, with a tick in the middle
abbrev interrupted : List Input
interrupted = bytes_in (0x03 ∷ 0x01 ∷ []) ++ (lent tick ∷ bytes_in (0x01 ∷ 0x03 ∷ 0x9D ∷ 0xC8 ∷ []))

-- the rest of what a host sends: RX_STOP while a TX is on air orders nothing; a run that holds the byte 7F; a tick between the bytes of a PING; GET_INFO; a
-- damaged frame; a disconnect with a free radio
pub asks :
    Command set_up (sent_as RX_START 10 [] ++ tx 20) RX_STOP 11 [] (ok 11 ∷ []) nothing
    × Command fresh [] PING 0x7F7F [] (ok 0x7F7F ∷ []) nothing
    × Gives fresh (sent_as PING 1 [] ++ interrupted) (byte 0) (ok 1 ∷ []) nothing
    × Command fresh [] GET_INFO 2 [] (message 2 (A.Info (board_info sx1262)) (uids_of sx1262) ∷ []) nothing
    × Gives fresh (bytes_in (0x05 ∷ [])) (byte 0) (err_due EFRAME 0 ∷ []) nothing
    × Gives set_up [] disconnect [] standby
unfolding computes answered
asks = (refl, refl, refl, refl, refl, refl)

-- a request: the oldest packet, with each of its values; one over 255 bytes is cut
abbrev delivers : Packet → ℕ → List ℕ → Message
delivers p valid bs =
    message 0
    (A.Rx
    (record {
      rssi = p.rssi;
      snr = p.snr;
      freq_err = p.freq_err;
      timestamp_us = p.timestamp_us;
      crc_valid = valid;
      packets_dropped = 0;
      origin = 0;
    }))
    bs

pub delivered :
    Gives set_up (hears (quiet ∷ long ∷ [])) request (delivers quiet 1 (0xAA ∷ []) ∷ []) nothing
    × Gives set_up (hears (long ∷ [])) request (delivers long 0 (replicate 255 0xBB) ∷ []) nothing
unfolding computes answered
delivered = (refl, refl)

-- ---- the causes of a refusal

-- after a fault while configuring bytes are taken again; a packet does not fit while a TX is on air, and still fits after a damaged frame
pub refuses :
    Gives fresh (sent_as SET_CONFIG 3 (lora 7 14) ++ (lent fault ∷ [])) (byte 3) [] nothing
    × Refuses set_up (sent_as RX_START 10 [] ++ tx 20) (packet quiet) 3
    × Gives set_up (hears [] ++ bytes_in (0x05 ∷ 0x00 ∷ [])) (packet quiet) [] nothing
unfolding computes answered
refuses = (refl, refl, refl)

-- ---- each TX_DONE, and each place

-- of a SET_CONFIG that falls into a transmission; of an orphan that has been sent; of a TX that has been sent
pub reports :
    Reports set_up (two ++ bytes_in (encoded (body SET_CONFIG 22 (lora 7 14)))) (byte 0) []
    × Reports set_up (tx 20 ++ (lent disconnect ∷ [])) (sent 33792) []
    × Reports set_up two (sent 33792) (20 ∷ [])
unfolding computes reported
reports = (refl, refl, refl)

-- after a fault while a SET_CONFIG waits, and then 1000 ticks; after 1000 ticks while a TX is on air; with one tag three times
abbrev faulted : List Input
faulted = two ++ (sent_as SET_CONFIG 22 (lora 7 14) ++ (lent fault ∷ replicate 1000 (lent tick)))

pub places :
    Places set_up faulted (was_reported 20 ∷ was_reported 21 ∷ []) []
    × Places set_up (tx 20 ++ replicate 1000 (lent tick)) (was_dropped 20 ∷ []) []
    × Places set_up (tx 20 ++ (tx 20 ++ tx 20)) [] (entry 20 with_radio ∷ entry 20 waits ∷ entry 20 waits ∷ [])
unfolding computes placed
places = (refl, refl, refl)

-- of 17 TX: the zero that ends the sixteenth has its OK, and after the seventeenth there are few
pub record Full : Type 0 where
  sixteenth : Answered
  bounded : Bool

unfoldable pub full : History device → Full
full h = record { sixteenth = answered h (byte 0); bounded = bounded (after device (onward device h (lent (byte 0))) (tx 17)) }

pub seventeen :
    full (after device set_up (txs 15 ++ bytes_in (encoded (body TX 16 (0x01 ∷ 0x41 ∷ [])))))
    ≡ record { sixteenth = given 0 (ok 16 ∷ []) nothing; bounded = true }
unfolding computes answered full
seventeen = refl

-- ---- the drop count

-- 65 packets, and two requests: the first RX reports one lost, the second none
pub record Counted : Type 0 where
  first : List ℕ
  second : List ℕ

unfoldable pub counted : History device → Counted
counted h =
    record {
      first = drop_counts (frames (answer device h (lent request)).bytes);
      second = drop_counts (frames (answer device (onward device h (lent request)) (lent request)).bytes);
    }

pub drops : counted (after device set_up (hears (replicate 65 quiet))) ≡ record { first = 1 ∷ []; second = 0 ∷ [] }
unfolding computes counted
drops = refl
