-- 01 "What each event does", the orders: one to transmit names a packet, and one to configure a modulation with its parameters, by where these bytes stand in
-- the memory of commands. There they stay, unchanged, until the radio has done with them: also those of a TX on air whose session has ended. And no order comes
-- before the end of what is on air, or of a configuration.
-- This speaks of every list of calls from power-up, and is stated once for any device whose orders name bytes. Here is the code as such a device, and crate
-- exported has the C functions as one. proofs/ has each statement proved of the code, under the name that stands above it here.
-- Assumes nothing.
use Rattle.std.specs.Prelude.{ℕ, ◌+◌, ◌≤◌, ◌≡◌, Bool, true, false, not, List, [], ◌∷◌, length, take, drop}
use Rattle.std.proofs.Math.Option.{Option, none, some}
use Rattle.device.specs.State.{Event, byte, tick, clear, busy, sent, configured, fault, packet, request, disconnect}
use Rattle.device.specs.Tally.{if_taken}
use Rattle.control.specs.declared.Order.{Order}
use Rattle.control.specs.declared.Order.TheVariants.{Nothing, Standby, Configure, Transmit, Receive}
use Rattle.machine.specs.Machine.{Machine, Call, stepped}
use Rattle.refinement.specs.Refines.{Memories, powered_up, CallIn}

-- ---- the bytes that the radio needs

-- the bytes that an order named: where they begin, how many they are, what they were when the order came, and whether the radio listens before it sends them
pub record Named : Type 0 where
  pub at : ℕ
  pub size : ℕ
  pub bytes : List ℕ
  pub listens : Bool

-- n bytes of the memory m, from index `at` on
abbrev pub named : ℕ → ℕ → Bool → List ℕ → Named
named at n listen m = record { at = at; size = n; bytes = take n (drop at m); listens = listen }

-- the channel is clear: the packet goes on air
abbrev pub on_air : Option Named → Option Named
on_air none = none
on_air (some x) = some (record { at = x.at; size = x.size; bytes = x.bytes; listens = false })

-- What an event that is taken leaves of them: with a packet the radio has done by busy and sent, with a configuration by configured, and with both by a fault.
abbrev pub needed_after : Event → Option Named → Option Named
needed_after (byte b) w = w
needed_after tick w = w
needed_after clear w = on_air w
needed_after busy w = none
needed_after (sent airtime) w = none
needed_after configured w = none
needed_after fault w = none
needed_after (packet p) w = w
needed_after request w = w
needed_after disconnect w = w

-- a refused one leaves them
abbrev pub needed_still : Event → ℕ → Option Named → Option Named
needed_still e n w = if_taken n (needed_after e w) w

-- What an order has the radio need, where m is the memory of commands that the call leaves: the bytes that it names, or none.
abbrev pub ordered : Order → List ℕ → Option Named → Option Named
ordered Nothing m w = w
ordered Standby m w = none
ordered (Configure at k ldro) m w = some (named at k false m)
ordered (Transmit at k listen) m w = some (named at k listen m)
ordered Receive m w = none

-- what the radio needs after a call, by the event, and by the number and the order that it is answered with
abbrev pub naming : Event → ℕ → Order → List ℕ → Option Named → Option Named
naming e n o m w = ordered o m (needed_still e n w)

-- ---- that they stay

-- they lie in the memory m, and are what they were
pub record Stay (x : Named) (m : List ℕ) : Type 0 where
  pub inside : x.at + x.size ≤ length m
  pub same : take x.size (drop x.at m) ≡ x.bytes

-- of bytes that are needed; of none nothing is said
abbrev pub StayIf : Option Named → List ℕ → Type 0
StayIf none m = Unit {0}
StayIf (some x) m = Stay x m

-- ---- a device whose orders name bytes, and every list of calls from its power-up

pub record Orders : Type 1 where
  -- its states, the one at power-up, and the one after a call
  pub State : Type 0
  pub power_up : State
  pub next : State → Call → State
  -- the number and the order that a call is answered with
  pub number : State → Call → ℕ
  pub order : State → Call → Order
  -- the memory of commands
  pub commands : State → List ℕ

-- what a list of calls has come to: the device, and the bytes that the radio needs
pub record Past (y : Orders) : Type 0 where
  pub device : y.State
  pub needed : Option Named

-- one call more
unfoldable pub after_call : (y : Orders) → Past y → Call → Past y
after_call y h c =
    let next = y.next h.device c in
    record { device = next; needed = naming c.event (y.number h.device c) (y.order h.device c) (y.commands next) h.needed }

unfoldable pub after_calls : (y : Orders) → Past y → List Call → Past y
after_calls y h [] = h
after_calls y h (c ∷ cs) = after_calls y (after_call y h c) cs

unfoldable pub past : (y : Orders) → List Call → Past y
past y cs = after_calls y (record { device = y.power_up; needed = none }) cs

-- bytes-stay
abbrev pub BytesStay : Orders → List Call → Type 0
BytesStay y cs = StayIf (past y cs).needed (y.commands (past y cs).device)

-- Whether bytes bind the radio: those of a packet on air, and those that it is being configured with. A radio that listens may be ordered elsewhere.
abbrev pub binds : Option Named → Bool
binds none = false
binds (some x) = not x.listens

-- uninterrupted: no order comes with an event that leaves bytes which bind the radio
abbrev pub Uninterrupted : Orders → List Call → Type 0
Uninterrupted y cs =
    let h = past y cs in
    (c : Call) → CallIn c → binds (needed_still c.event (y.number h.device c) h.needed) ≡ true → y.order h.device c ≡ Nothing

-- ---- the code as such a device

abbrev pub code_orders : Memories → Orders
code_orders w =
    record {
      State = Machine;
      power_up = powered_up w;
      next = λ y c. (stepped y c).next;
      number = λ y c. (stepped y c).answer.number;
      order = λ y c. (stepped y c).answer.order;
      commands = λ y. y.commands;
    }
