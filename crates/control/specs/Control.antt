-- The device's state as the code holds it, and what an event gives.
-- Numbers of a state may be any that their types allow; a definition says what happens then too.
-- Assumes nothing.
use Rattle.std.specs.Prelude.{ℕ, ◌+◌, ◌≡◌, Bool, true, false, cond, ◌||◌, List, [], ◌∷◌, ◌++◌, ltb, length}
use Rattle.status.specs.Numbers.{TAKEN, ROOM}
use Rattle.buffer.specs.Lay.{lay}
use Rattle.device.specs.State.{RadioOf}
use Rattle.device.specs.State as S
use Rattle.device.specs.Messages.{Frame, yes}
use Rattle.device.specs.Events.{room_min}
use Rattle.device.specs.Events as E
use Rattle.emit.specs.Emitting.{frames_bytes}
use Rattle.control.specs.declared.Mode.{Mode}
use Rattle.control.specs.declared.Mode.TheVariants.{Unconfigured, Lora, Fsk}
use Rattle.control.specs.declared.Radio.{Radio}
use Rattle.control.specs.declared.Radio.TheVariants.{Free, Listening, OnAir, Orphan, Configuring}
use Rattle.control.specs.declared.Link.{Link}
use Rattle.control.specs.declared.Air.{Air}
use Rattle.control.specs.declared.Inbox.{Inbox}
use Rattle.control.specs.declared.Device.{Device}
use Rattle.control.specs.declared.Order.{Order}
use Rattle.control.specs.declared.Order.TheVariants.{Nothing, Standby, Configure, Transmit, Receive}
use Rattle.control.specs.declared.Taken.{Taken}
use Rattle.control.specs.declared.Reply.{Reply}

-- ---- the state

abbrev pub link : Bool → ℕ → ℕ → Link
link s n run = record { session = s; ticks = n; run = run }

abbrev pub air : Radio → Bool → ℕ → ℕ → Air
air r p k n = record { radio = r; pending = p; first = k; waiting = n }

abbrev pub inbox : Bool → ℕ → ℕ → ℕ → Inbox
inbox on k n lost = record { receiving = on; first = k; held = n; drops = lost }

abbrev pub device : Mode → Link → Air → Inbox → Device
device m l a i = record { mode = m; link = l; air = a; inbox = i }

-- a state with one of its parts new
abbrev pub with_link : Device → Link → Device
with_link d l = device d.mode l d.air d.inbox

abbrev pub with_air : Device → Air → Device
with_air d a = device d.mode d.link a d.inbox

abbrev pub with_inbox : Device → Inbox → Device
with_inbox d i = device d.mode d.link d.air i

abbrev pub with_radio : Air → Radio → Air
with_radio a r = air r a.pending a.first a.waiting

-- no session and no run
abbrev pub no_session : Link
no_session = link false 0 0

-- reception with receiving turned on or off
abbrev pub with_receiving : Inbox → Bool → Inbox
with_receiving i on = inbox on i.first i.held i.drops

-- what a SET_CONFIG leaves of reception: nothing is held, and receiving goes on; where the ring begins stays
abbrev pub ring_emptied : Inbox → Inbox
ring_emptied i = inbox i.receiving i.first 0 0

-- what a session's end leaves of it: nothing is held, and receiving is off
abbrev pub reception_ended : Inbox → Inbox
reception_ended i = inbox false i.first 0 0

abbrev pub power_up : Device
power_up = device Unconfigured no_session (air Free false 0 0) (inbox false 0 0 0)

-- ---- what is asked of it

abbrev pub unconfigured : Mode → Bool
unconfigured Unconfigured = true
unconfigured Lora = false
unconfigured Fsk = false

-- The radio as the definition has it, and back: of a SET_CONFIG that it is being configured with nothing is kept here, since it
-- stands in the memory of commands.
abbrev pub radio_of : Radio → RadioOf (Unit {0})
radio_of Free = S.free
radio_of (Listening t) = S.listening t
radio_of (OnAir t) = S.on_air t
radio_of Orphan = S.orphan
radio_of Configuring = S.configuring tt

abbrev pub radio_is : RadioOf (Unit {0}) → Radio
radio_is S.free = Free
radio_is (S.listening t) = Listening t
radio_is (S.on_air t) = OnAir t
radio_is S.orphan = Orphan
radio_is (S.configuring x) = Configuring

abbrev pub free? : Radio → Bool
free? r = S.free? (radio_of r)

abbrev pub runs? : Radio → Bool
runs? r = S.runs? (radio_of r)

-- a SET_CONFIG waits, or runs
abbrev pub stalled : Air → Bool
stalled a = a.pending || runs? a.radio

-- ---- what an event gives

-- what is done by one that is taken: the next state, the frames written and the radio order
pub record Done : Type 0 where
  pub next : Device
  pub writes : List Frame
  pub order : Order

abbrev pub does : Device → List Frame → Order → Done
does d fs o = record { next = d; writes = fs; order = o }

-- frames first, and then what x gives
abbrev pub writes_first : List Frame → Done → Done
writes_first fs x = does x.next (fs ++ x.writes) x.order

-- what any is answered with: the number too
pub record Out : Type 0 where
  pub next : Device
  pub number : ℕ
  pub writes : List Frame
  pub order : Order

abbrev pub taken : Done → Out
taken x = record { next = x.next; number = TAKEN; writes = x.writes; order = x.order }

-- a refusal writes nothing, orders nothing and leaves the state
abbrev pub refused : ℕ → Device → Out
refused n d = record { next = d; number = n; writes = []; order = Nothing }

-- ROOM comes before all else
unfoldable pub within : ℕ → Device → Out → Out
within room d x = cond (ltb room room_min) (refused ROOM d) x

-- ---- the answer of the code

-- what the code has done by x, where what x writes begins at index `at` of the output
abbrev pub done_at : ℕ → Done → Taken
done_at at x = record { device = x.next; written = at + length (frames_bytes x.writes); order = x.order }

abbrev pub replied : Out → Reply
replied x = record { device = x.next; number = x.number; written = length (frames_bytes x.writes); order = x.order }

-- an order's number, as callers that know no enums have it, and its values: where its bytes stand in the memory of commands, how many they are, LDRO, and
-- whether the radio listens first
abbrev pub order_number : Order → ℕ
order_number Nothing = 0
order_number Standby = 1
order_number (Configure at n ldro) = 2
order_number (Transmit at n listen) = 3
order_number Receive = 4

abbrev pub order_values : Order → List ℕ
order_values Nothing = 0 ∷ 0 ∷ 0 ∷ 0 ∷ []
order_values Standby = 0 ∷ 0 ∷ 0 ∷ 0 ∷ []
order_values (Configure at n ldro) = at ∷ n ∷ yes ldro ∷ 0 ∷ []
order_values (Transmit at n listen) = at ∷ n ∷ 0 ∷ yes listen ∷ []
order_values Receive = 0 ∷ 0 ∷ 0 ∷ 0 ∷ []

-- an answer in numbers: 01's number, the count of bytes written, the order and its values
unfoldable pub reply_numbers : Reply → List ℕ
reply_numbers a = a.number ∷ a.written ∷ order_number a.order ∷ order_values a.order

-- ---- the contracts

-- of what an event does that is taken: what r says is x's, and the output is as it was but for x's frames, which stand in it from index `at` on
pub record Gives (x : Done) (o : List ℕ) (at : ℕ) (r : Taken) (o' : List ℕ) : Type 0 where
  pub does : r ≡ done_at at x
  pub writes : o' ≡ lay at (frames_bytes x.writes) o

-- of an event that is lent no output: the next state and the answer in numbers are x's
pub record Returns (x : Out) (r : Reply) : Type 0 where
  pub state : r.device ≡ x.next
  pub numbers : reply_numbers r ≡ reply_numbers (replied x)

-- of one that is: and the output is as it was but for x's frames at its start
pub record Replies (x : Out) (o : List ℕ) (r : Reply) (o' : List ℕ) : Type 0 where
  pub returns : Returns x r
  pub writes : o' ≡ lay 0 (frames_bytes x.writes) o

-- ---- the order when there is nothing to send

abbrev pub idle : Bool → Order
idle true = Receive
idle false = Standby
