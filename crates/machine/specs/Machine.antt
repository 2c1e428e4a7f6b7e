-- The device in code: its state and its three memories, and what a call of each event does with them, by the definitions that the contracts of the events cite.
-- Assumes nothing.
use Rattle.std.specs.Prelude.{ℕ, List, length}
use Rattle.buffer.specs.Lay.{lay}
use Rattle.device.specs.State as S
use Rattle.emit.specs.Emitting.{frames_bytes}
use Rattle.control.specs.declared.Device.{Device}
use Rattle.control.specs.declared.Reply.{Reply}
use Rattle.control.specs.Control.{Out, replied, reply_numbers}
use Rattle.outcome.specs.Outcomes.{clear_out, busy_out, sent_out, fault_out, configured_out}
use Rattle.inbox.specs.Packets.{received_packet, packet_out, request_out}
use Rattle.session.specs.Session.{tick_out, disconnect_out}
use Rattle.link.specs.Link.{byte_out}
use Rattle.machine.specs.declared.Event.{Event}
use Rattle.machine.specs.declared.Event.TheVariants.{Byte, Tick, Clear, Busy, Sent, Configured, Fault, Packet, Request, Disconnect}

-- the state, and the memories of the run, of commands and of packets
pub record Machine : Type 0 where
  pub device : Device
  pub run : List ℕ
  pub commands : List ℕ
  pub packets : List ℕ

abbrev pub machine : Device → List ℕ → List ℕ → List ℕ → Machine
machine d run m p = record { device = d; run = run; commands = m; packets = p }

-- a call: an event, and the output that is lent for its answer
pub record Call : Type 0 where
  pub event : S.Event
  pub out : List ℕ

-- an event as the code is given it; a packet's bytes come beside it
abbrev pub event_of : Event → List ℕ → S.Event
event_of (Byte b) bs = S.byte b
event_of Tick bs = S.tick
event_of Clear bs = S.clear
event_of Busy bs = S.busy
event_of (Sent airtime) bs = S.sent airtime
event_of Configured bs = S.configured
event_of Fault bs = S.fault
event_of (Packet h) bs = S.packet (received_packet h bs)
event_of Request bs = S.request
event_of Disconnect bs = S.disconnect

-- what it leaves, and what it answers
pub record Ran : Type 0 where
  pub next : Machine
  pub answer : Reply
  pub out : List ℕ

-- an event that writes to the output
abbrev pub with_output : Out → List ℕ → List ℕ → List ℕ → List ℕ → Ran
with_output x o run m p = record { next = machine x.next run m p; answer = replied x; out = lay 0 (frames_bytes x.writes) o }

-- an event that is lent none
abbrev pub without_output : Out → List ℕ → List ℕ → List ℕ → List ℕ → Ran
without_output x o run m p = record { next = machine x.next run m p; answer = replied x; out = o }

-- the ten events
abbrev pub stepped_on : S.Event → List ℕ → Machine → Ran
stepped_on (S.byte b) o y =
    let x = byte_out (length o) b y.run y.commands y.device in
    with_output x.gives o x.run x.commands y.packets
stepped_on S.tick o y = without_output (tick_out (length o) y.device) o y.run y.commands y.packets
stepped_on S.clear o y = without_output (clear_out (length o) y.device) o y.run y.commands y.packets
stepped_on S.busy o y = with_output (busy_out (length o) y.commands y.device) o y.run y.commands y.packets
stepped_on (S.sent airtime) o y = with_output (sent_out airtime (length o) y.commands y.device) o y.run y.commands y.packets
stepped_on S.configured o y = with_output (configured_out (length o) y.commands y.device) o y.run y.commands y.packets
stepped_on S.fault o y = with_output (fault_out (length o) y.commands y.device) o y.run y.commands y.packets
stepped_on (S.packet p) o y =
    let x = packet_out (length o) p y.packets y.device in
    without_output x.gives o y.run y.commands x.packets
stepped_on S.request o y =
    let x = request_out (length o) y.packets y.device in
    with_output x.gives o y.run y.commands x.packets
stepped_on S.disconnect o y = without_output (disconnect_out (length o) y.device) o y.run y.commands y.packets

unfoldable pub stepped : Machine → Call → Ran
stepped y c = stepped_on c.event c.out y

-- what is left of a call: the next state, the answer in numbers, the three memories and the output
pub record Left : Type 0 where
  pub device : Device
  pub answer : List ℕ
  pub run : List ℕ
  pub commands : List ℕ
  pub packets : List ℕ
  pub out : List ℕ

unfoldable pub leaves : Machine → Call → Left
leaves y c =
    let x = stepped y c in
    record {
      device = x.next.device;
      answer = reply_numbers x.answer;
      run = x.next.run;
      commands = x.next.commands;
      packets = x.next.packets;
      out = x.out;
    }
