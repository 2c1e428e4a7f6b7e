-- The demands as statements about the device: 00, demands 1 to 3; 01's last line under "What each event does"; the drop count of P 6.9; when receiving is on,
-- by 01 and 02 §1. Demand 1, and demand 2 for damaged frames, speak of every state of the device as 01 defines it. What is demanded after a list of events is
-- stated for any device. proofs/ has each of them proved of the defined device, under the name that stands above it here.
-- Assumes nothing.
use Rattle.std.specs.Prelude.{ℕ, zero, suc, ◌+◌, ◌≤◌, ◌<◌, min, ◌≡◌, Bool, true, false, cond, ◌&&◌, List, [], ◌∷◌, ◌++◌, map, ltb, eqb, length, take, get_or}
use Rattle.status.specs.Numbers.{TAKEN}
use Rattle.kind.specs.Kinds.{ERR, RX, EFRAME}
use Rattle.rx.specs.Rx.{rx_of}
use Rattle.buffer.specs.Lay.{lay}
use Rattle.scalar.specs.Bytes.{Each}
use Rattle.scalar.specs.Scalars.{number}
use Rattle.kind.specs.declared.Name.{Name}
use Rattle.cobs.specs.Encoding.{encoded}
use Rattle.cobs.specs.Answers.{encoded_max}
use Rattle.frame.specs.Body.{body}
use Rattle.frame.specs.declared.Opened.TheVariants as O
use Rattle.frame.specs.declared.Written.TheVariants as W
use Rattle.answer.specs.Answers.{answer_kind, answer_name, MayAnswer, read_answer, answer_tail}
use Rattle.answer.specs.declared.Answered.TheVariants as D
use Rattle.wellformed.specs.declared.Kinds.TheVariants as K
use Rattle.reader.specs.Reading.{receive_answer}
use Rattle.writer.specs.Writing.{write_answer, write_left}
use Rattle.board.specs.Board.{Board}
use Rattle.device.specs.State.{State, link, with_link, power_up, held, tags_of}
use Rattle.device.specs.State.{Event, byte, tick, clear, busy, sent, configured, fault, packet, request, disconnect, Input, Order, nothing}
use Rattle.device.specs.Messages.{Message, payload, message_bytes, messages_bytes, Frame, frame, seen}
use Rattle.device.specs.Frames.{Received, damaged, command, unconfigured}
use Rattle.device.specs.Reading.{frames, brings}
use Rattle.device.specs.Events.{does, Out, taken, refused, step, Reply, reply}
use Rattle.device.specs.Tally.{Place, reported, dropped, with_radio, waits, Entry, entry, open?, Tally}
use Rattle.device.specs.Tally.{no_tally, if_taken, tallied, wrote, dones, reported_tags, newly_reported}
use Rattle.device.specs.Observer.{Observer, knows_nothing, observed}
use Rattle.device.specs.Due.{reconfiguring, cause, number_due, err_due, messages_due, order_due}
use Rattle.device.specs.Ranges.{InputIn}

-- ---- demand 1, for every state

-- the cause of a refusal, by the state
abbrev pub cause_in : State → Input → ℕ
cause_in s i = cause i.room (reconfiguring s.air.pending s.air.radio) s.air.radio s.inbox.receiving i.event

-- Of an answer x, of any kind, with the cause n: its number is the cause's, and a refusal writes nothing and changes nothing. `number` reads the number off an
-- answer, and `refuse` is the answer that does nothing else.
pub record Exact {A : Type 0} (number : A → ℕ) (refuse : ℕ → A) (n : ℕ) (x : A) : Type 0 where
  pub returns : number x ≡ n
  pub stays : (k : ℕ) → n ≡ suc k → x ≡ refuse (suc k)

-- demand1
abbrev pub Demand1 : Board → State → Input → Type 0
Demand1 b s i = Exact (λ (o : Out). o.number) (λ k. refused k s) (cause_in s i) (step b s i)

-- ---- demand 2, damaged frames, for every state

-- demand2: a run that fails step 1 draws ERR(EFRAME) with tag 0, and nothing changes but session, liveness count and run
abbrev pub Demand2 : Board → State → ℕ → Type 0
Demand2 b s room =
    ltb room 283 ≡ false → reconfiguring s.air.pending s.air.radio ≡ false → 0 < length s.link.run → brings s.link.run ≡ damaged
    → step b s (record { room = room; event = byte 0 }) ≡ taken (does (with_link (link true 0 []) s) (err_due EFRAME 0 ∷ []) nothing)

-- ---- a device as the demands on histories see it

pub record System : Type 1 where
  -- its states, and the one at power-up
  pub State : Type 0
  pub power_up : State
  -- what it is given: an event, with output of so much room lent for its answer; and that each number of it is a value of its type
  pub Given : Type 0
  pub event : Given → Event
  pub room : Given → ℕ
  pub GivenIn : Given → Type 0
  -- its answer in a state, and its state after that
  pub answer : State → Given → Reply
  pub next : State → Given → State
  -- the tags of its open TX, in their order: with the radio, and waiting
  pub radio : State → List ℕ
  pub waiting : State → List ℕ
  -- whether a session is open, whether it is UNCONFIGURED, and whether receiving is on
  pub session : State → Bool
  pub unconfigured : State → Bool
  pub receiving : State → Bool

-- the device as 01 defines it, with any board
abbrev pub defined : Board → System
defined b =
    record {
      State = State;
      power_up = power_up;
      Given = Input;
      event = λ i. i.event;
      room = λ i. i.room;
      GivenIn = InputIn;
      answer = λ s i. reply (step b s i);
      next = λ s i. (step b s i).next;
      radio = λ s. held s.air.radio;
      waiting = λ s. tags_of s.air.waiting;
      session = λ s. s.link.session;
      unconfigured = λ s. unconfigured s.config;
      receiving = λ s. s.inbox.receiving;
    }

-- ---- histories: every list of events from power-up, refused ones included

-- what a list of events has come to: the device, the tally, what an observer knows beside it, and all bytes written, in their order
pub record History (y : System) : Type 0 where
  pub device : y.State
  pub tally : Tally
  pub observer : Observer
  pub bytes : List ℕ

-- the answer to one event more
abbrev pub answer : (y : System) → History y → y.Given → Reply
answer y h i = y.answer h.device i

unfoldable pub onward : (y : System) → History y → y.Given → History y
onward y h i =
    record {
      device = y.next h.device i;
      tally = tallied (y.event i) (answer y h i) h.tally;
      observer = observed (y.event i) (answer y h i) h.tally h.observer;
      bytes = h.bytes ++ (answer y h i).bytes;
    }

unfoldable pub after : (y : System) → History y → List y.Given → History y
after y h [] = h
after y h (i ∷ is) = after y (onward y h i) is

abbrev pub begins : (y : System) → History y
begins y = record { device = y.power_up; tally = no_tally; observer = knows_nothing; bytes = [] }

unfoldable pub history : (y : System) → List y.Given → History y
history y is = after y (begins y) is

-- ---- demand 1, after every list of events, by what was seen

-- demand1-seen: the number of one event more is the cause's that the observer sees; a refusal writes nothing, orders nothing and changes nothing
pub record Demand1Seen (y : System) (is : List y.Given) (i : y.Given) : Type 0 where
  pub returns : (answer y (history y is) i).number ≡ number_due (y.room i) (y.event i) (history y is).observer
  pub stays : (n : ℕ) → (answer y (history y is) i).number ≡ suc n
      → ((answer y (history y is) i).bytes ≡ []) × ((answer y (history y is) i).order ≡ nothing) × (y.next (history y is).device i ≡ (history y is).device)

-- ---- what is written and ordered

-- the messages and the order that are due at one event more, by what was seen up to it and by its number
abbrev pub messages_next : Board → (y : System) → List y.Given → y.Given → List Message
messages_next b y is i = messages_due b (answer y (history y is) i).number (y.event i) (history y is).tally (history y is).observer

abbrev pub order_next : Board → (y : System) → List y.Given → y.Given → Order
order_next b y is i = order_due b (answer y (history y is) i).number (y.event i) (history y is).tally (history y is).observer

-- contents: the bytes of one event more are the frames of the messages that are due, and the order is the one that is due; as many bytes are written as are
-- counted
pub record Contents (b : Board) (y : System) (is : List y.Given) (i : y.Given) : Type 0 where
  pub count : (answer y (history y is) i).count ≡ length (answer y (history y is) i).bytes
  pub bytes : (answer y (history y is) i).bytes ≡ messages_bytes (messages_next b y is i)
  pub order : (answer y (history y is) i).order ≡ order_next b y is i

-- ---- demand 2, damaged frames, by what was seen

-- a zero ends the observer's run, and that fails step 1
abbrev pub damaged? : Received → Bool
damaged? damaged = true
damaged? (command kind t p) = false

abbrev pub run_damaged : List ℕ → Bool
run_damaged [] = false
run_damaged (r ∷ rs) = damaged? (brings (r ∷ rs))

abbrev pub ends_damaged : Event → List ℕ → Bool
ends_damaged (byte zero) run = run_damaged run
ends_damaged (byte (suc n)) run = false
ends_damaged tick run = false
ends_damaged clear run = false
ends_damaged busy run = false
ends_damaged (sent airtime) run = false
ends_damaged configured run = false
ends_damaged fault run = false
ends_damaged (packet p) run = false
ends_damaged request run = false
ends_damaged disconnect run = false

-- how many ERR(EFRAME) with tag 0 are among some frames
unfoldable pub eframes : List Frame → ℕ
eframes [] = 0
eframes (frame k t p ∷ fs) = cond (eqb k ERR && (eqb t 0 && eqb (number p) EFRAME)) 1 0 + eframes fs

-- demand2-seen: one event more draws ERR(EFRAME) with tag 0, once, where it ends a damaged run, and else not; and there it writes nothing else and orders
-- nothing
pub record Demand2Seen (y : System) (is : List y.Given) (i : y.Given) : Type 0 where
  pub returns : eframes (frames (answer y (history y is) i).bytes)
      ≡ if_taken (answer y (history y is) i).number (cond (ends_damaged (y.event i) (history y is).tally.run) 1 0) 0
  pub alone : (answer y (history y is) i).number ≡ TAKEN → ends_damaged (y.event i) (history y is).tally.run ≡ true
      → ((answer y (history y is) i).bytes ≡ message_bytes (err_due EFRAME 0)) × ((answer y (history y is) i).order ≡ nothing)

-- ---- demand 2, the bytes: what an event writes is read back as the messages written

-- The writer of answers (crate compose) takes it into any memory that an event may be lent, and writes just these bytes; and the host's reader, with any
-- command named that the answer may have, takes the frame, and has the same answer with the same bytes.
pub record Back (m : Message) : Type 0 where
  pub written : (room : ℕ) → 283 ≤ room
      → write_answer (K.Answers (answer_name m.answer)) (answer_kind m.answer) m.tag (payload m) room ≡ W.Done (length (message_bytes m))
  pub left : (d : List ℕ) → 283 ≤ length d
      → write_left (K.Answers (answer_name m.answer)) (answer_kind m.answer) m.tag (payload m) d ≡ lay 0 (message_bytes m) d
  pub taken : (name : Name) → MayAnswer m.answer name
      → receive_answer (K.Answers name) (encoded (body (answer_kind m.answer) m.tag (payload m))) encoded_max
      ≡ O.Body (answer_kind m.answer) m.tag (length (payload m))
  pub same : (name : Name) → MayAnswer m.answer name → read_answer (answer_kind m.answer) name (payload m) ≡ D.Answer m.answer
  pub bytes : (name : Name) → MayAnswer m.answer name → answer_tail (answer_kind m.answer) name (payload m) ≡ m.bytes

-- demand2-wire: splitting the bytes of one event more at their zeros and opening each run gives the messages that are due, and each is read as the same message
pub record Demand2Wire (b : Board) (y : System) (is : List y.Given) (i : y.Given) : Type 0 where
  pub split : frames (answer y (history y is) i).bytes ≡ map seen (messages_next b y is i)
  pub back : Each Back (messages_next b y is i)

-- ---- demand 3

-- a TX that is reported, or dropped
pub data Closed : Type 0 where
  was_reported : ℕ → Closed
  was_dropped : ℕ → Closed

abbrev pub closed : Closed → Entry
closed (was_reported t) = entry t reported
closed (was_dropped t) = entry t dropped

-- the device's open TX, as entries
abbrev pub with_radio_of : (y : System) → y.State → List Entry
with_radio_of y s = map (λ t. entry t with_radio) (y.radio s)

abbrev pub waiting_of : (y : System) → y.State → List Entry
waiting_of y s = map (λ t. entry t waits) (y.waiting s)

-- demand3: after every list of events, and at every event that follows it
pub record Demand3 (y : System) (is : List y.Given) : Type 0 where
  -- in number order: first those reported or dropped, then the one with the radio, if any, then those that wait; these two are the device's own, by place,
  -- order and tag
  pub before : List Closed
  pub places : (history y is).tally.txs ≡ map closed before ++ (with_radio_of y (history y is).device ++ waiting_of y (history y is).device)
  pub one : length (with_radio_of y (history y is).device) ≤ 1
  pub bounded : length (with_radio_of y (history y is).device ++ waiting_of y (history y is).device) ≤ 16
  -- the TX_DONEs that one event more writes are those of the TX that the tally reports at it: one each, with its tag, in number order
  pub each : (i : y.Given) → y.GivenIn i
      → dones (frames (answer y (history y is) i).bytes) ≡ newly_reported (history y is).tally.txs (onward y (history y is) i).tally.txs
  -- in all that was written, each reported TX has one TX_DONE, and they come in number order
  pub whole : dones (frames (history y is).bytes) ≡ reported_tags (history y is).tally.txs
  -- one event more writes at most 283 bytes, and at most 201 if it delivers no packet
  pub most : (i : y.Given) → y.GivenIn i → length (answer y (history y is) i).bytes ≤ 283
  pub most_but_packets : (i : y.Given) → y.GivenIn i → wrote RX (frames (answer y (history y is) i).bytes) ≡ false
      → length (answer y (history y is) i).bytes ≤ 201

-- ---- 01's last line on events

-- how many of some entries are open
unfoldable pub open_count : List Entry → ℕ
open_count [] = 0
open_count (entry t p ∷ xs) = cond (open? p) 1 0 + open_count xs

abbrev pub outcome? : Event → Bool
outcome? (byte n) = false
outcome? tick = false
outcome? clear = false
outcome? busy = true
outcome? (sent airtime) = true
outcome? configured = false
outcome? fault = true
outcome? (packet p) = false
outcome? request = false
outcome? disconnect = false

-- how many busy, sent or fault of a list are taken
unfoldable pub outcomes : (y : System) → History y → List y.Given → ℕ
outcomes y h [] = 0
outcomes y h (i ∷ is) = cond (outcome? (y.event i)) (if_taken (answer y h i).number 1 0) 0 + outcomes y (onward y h i) is

abbrev pub place_of : Entry → Place
place_of (entry t p) = p

-- the place of the TX with number n
abbrev pub place_at : ℕ → List Entry → Place
place_at n xs = place_of (get_or xs n (entry 0 waits))

-- in-time: a TX with k open before it is open no more once k + 1 have been taken: it is reported, or its session has ended and it is dropped
abbrev pub InTime : (y : System) → List y.Given → Type 0
InTime y is =
    (n : ℕ) → n < length (history y is).tally.txs → (js : List y.Given) → Each y.GivenIn js
    → suc (open_count (take n (history y is).tally.txs)) ≤ outcomes y (history y is) js
    → open? (place_at n (after y (history y is) js).tally.txs) ≡ false

-- ---- the drop count

-- the drop counts of the RX among some frames
unfoldable pub drop_counts : List Frame → List ℕ
drop_counts [] = []
drop_counts (frame k t p ∷ fs) = cond (eqb k RX) ((rx_of p).packets_dropped ∷ []) [] ++ drop_counts fs

abbrev pub request? : Event → Bool
request? (byte n) = false
request? tick = false
request? clear = false
request? busy = false
request? (sent airtime) = false
request? configured = false
request? fault = false
request? (packet p) = false
request? request = true
request? disconnect = false

-- a request that is taken while packets are held
abbrev pub due : Event → ℕ → Observer → Bool
due e n k = request? e && if_taken n (ltb 0 (length k.inbox.ring)) false

-- drop-count: an RX comes when it is due, and reports as many packets as were lost, up to 65,535
abbrev pub DropCount : (y : System) → List y.Given → Type 0
DropCount y is =
    (i : y.Given) → y.GivenIn i
    → drop_counts (frames (answer y (history y is) i).bytes)
    ≡ cond (due (y.event i) (answer y (history y is) i).number (history y is).observer) (min (history y is).observer.inbox.drops 65535 ∷ []) []

-- ---- receiving

-- receiving: it is on only in an open session, and off while the device is UNCONFIGURED; and of the three the device has what was seen
pub record Receiving (y : System) (is : List y.Given) : Type 0 where
  pub session_on : y.receiving (history y is).device ≡ true → y.session (history y is).device ≡ true
  pub configured : y.unconfigured (history y is).device ≡ true → y.receiving (history y is).device ≡ false
  pub session_seen : y.session (history y is).device ≡ (history y is).tally.session
  pub config_seen : y.unconfigured (history y is).device ≡ unconfigured (history y is).observer.config
  pub receiving_seen : y.receiving (history y is).device ≡ (history y is).observer.inbox.receiving
