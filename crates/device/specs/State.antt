-- The device's state, the ten events and the radio's orders: 01 "What each event does" and "The tally behind demand 3".
-- Assumes nothing.
use Rattle.std.specs.Prelude.{ℕ, Bool, true, false, ◌||◌, List, [], ◌∷◌, ◌++◌, ℤ, length}
use Rattle.std.proofs.Math.Option.{Option, none, some}
use Rattle.modulation.specs.declared.Modulation.{Modulation}

-- ---- what the state is made of

-- a configuration: a modulation with its parameters, and the bytes of its sync word
pub record Config : Type 0 where
  pub modulation : Modulation
  pub word : List ℕ

-- a SET_CONFIG that was taken: its tag, and the configuration that it brought
pub record Setting : Type 0 where
  pub tag : ℕ
  pub config : Config

-- a TX that was taken: its tag, its flags and its packet
pub record Tx : Type 0 where
  pub tag : ℕ
  pub flags : ℕ
  pub packet : List ℕ

-- What the radio does: nothing; it waits for a clear channel, to send a TX; it sends one; it sends one whose session has ended, the orphan; it is being
-- configured. Of a TX only the tag is still needed. C is what is kept here of the SET_CONFIG.
pub data RadioOf (C : Type 0) : Type 0 where
  free : RadioOf C
  listening : ℕ → RadioOf C
  on_air : ℕ → RadioOf C
  orphan : RadioOf C
  configuring : C → RadioOf C

abbrev pub Radio : Type 0
Radio = RadioOf Setting

-- a received packet: RX's values without dropped and origin
pub record Packet : Type 0 where
  pub rssi : ℤ
  pub snr : ℤ
  pub freq_err : ℤ
  pub timestamp_us : ℕ
  pub crc_valid : Bool
  pub bytes : List ℕ

-- ---- the state

-- the host's side: whether a session is open, the liveness count in ms, and the run of bytes since the last zero
pub record Link : Type 0 where
  pub session : Bool
  pub ticks : ℕ
  pub run : List ℕ

-- the radio's side: the radio, the TX that wait, oldest first, and the SET_CONFIG that waits
pub record Air : Type 0 where
  pub radio : Radio
  pub waiting : List Tx
  pub pending : Option Setting

-- reception: whether it is on, the RX ring, oldest first, and the drop count
pub record Inbox : Type 0 where
  pub receiving : Bool
  pub ring : List Packet
  pub drops : ℕ

-- CONFIGURED is to have a configuration, UNCONFIGURED is to have none
pub record State : Type 0 where
  pub config : Option Config
  pub link : Link
  pub air : Air
  pub inbox : Inbox

abbrev pub link : Bool → ℕ → List ℕ → Link
link s n run = record { session = s; ticks = n; run = run }

abbrev pub air : Radio → List Tx → Option Setting → Air
air r ws p = record { radio = r; waiting = ws; pending = p }

abbrev pub inbox : Bool → List Packet → ℕ → Inbox
inbox on ring n = record { receiving = on; ring = ring; drops = n }

abbrev pub state : Option Config → Link → Air → Inbox → State
state c l a i = record { config = c; link = l; air = a; inbox = i }

-- a state with one of its parts new
abbrev pub with_config : Option Config → State → State
with_config c s = state c s.link s.air s.inbox

abbrev pub with_link : Link → State → State
with_link l s = state s.config l s.air s.inbox

abbrev pub with_air : Air → State → State
with_air a s = state s.config s.link a s.inbox

abbrev pub with_inbox : Inbox → State → State
with_inbox i s = state s.config s.link s.air i

-- reception with receiving turned on or off: ring and count stay
abbrev pub with_receiving : Bool → Inbox → Inbox
with_receiving on i = inbox on i.ring i.drops

-- no session, no run, nothing received: at power-up and after a session's end
abbrev pub no_session : Link
no_session = link false 0 []

abbrev pub no_reception : Inbox
no_reception = inbox false [] 0

-- at power-up
abbrev pub power_up : State
power_up = state none no_session (air free [] none) no_reception

-- ---- what is asked of it

-- the tags of the open TX, in their order: the one with the radio, then those that wait
abbrev pub held : {C : Type 0} → RadioOf C → List ℕ
held free = []
held (listening t) = t ∷ []
held (on_air t) = t ∷ []
held orphan = []
held (configuring c) = []

abbrev pub tags_of : List Tx → List ℕ
tags_of [] = []
tags_of (x ∷ xs) = x.tag ∷ tags_of xs

abbrev pub open# : Air → ℕ
open# a = length (held a.radio ++ tags_of a.waiting)

abbrev pub free? : {C : Type 0} → RadioOf C → Bool
free? free = true
free? (listening t) = false
free? (on_air t) = false
free? orphan = false
free? (configuring c) = false

-- a SET_CONFIG waits, or runs
abbrev pub waits? : Option Setting → Bool
waits? none = false
waits? (some c) = true

abbrev pub runs? : {C : Type 0} → RadioOf C → Bool
runs? free = false
runs? (listening t) = false
runs? (on_air t) = false
runs? orphan = false
runs? (configuring c) = true

abbrev pub stalled : Air → Bool
stalled a = waits? a.pending || runs? a.radio

-- ---- events and orders

-- 01 "The tally behind demand 3": the events. `sent` has the airtime in us.
pub data Event : Type 0 where
  byte : ℕ → Event
  tick : Event
  clear : Event
  busy : Event
  sent : ℕ → Event
  configured : Event
  fault : Event
  packet : Packet → Event
  request : Event
  disconnect : Event

-- an event, with the length of the output that is lent for its answer
pub record Input : Type 0 where
  pub room : ℕ
  pub event : Event

-- the order to the radio: none; standby; configure, with the parameters and LDRO; transmit, with the packet, and whether to listen first; receive
pub data Order : Type 0 where
  nothing : Order
  standby : Order
  configure : Config → Bool → Order
  transmit : List ℕ → Bool → Order
  receive : Order
