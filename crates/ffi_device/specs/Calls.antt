-- The dongle as C has it, a control array and three memories: what each function is lent, and what it leaves of that; and a call of any event.
-- A control array is words, which stand for a state whatever they hold, and an answer comes as words (crate packed; crate control, `replyNumbers`).
-- Assumes nothing.
use Rattle.std.specs.Prelude.{ℕ, List, length, replicate}
use Rattle.buffer.specs.Lay.{lay}
use Rattle.cobs.specs.Answers.{encoded_max}
use Rattle.device.specs.State.{Event, byte, tick, clear, busy, sent, configured, fault, packet, request, disconnect, Packet}
use Rattle.emit.specs.Emitting.{frames_bytes}
use Rattle.control.specs.declared.Device.{Device}
use Rattle.control.specs.Control.{power_up, Out, replied, reply_numbers}
use Rattle.slot.specs.Slots.{commands_size}
use Rattle.outcome.specs.Outcomes.{clear_out, busy_out, sent_out, fault_out, configured_out}
use Rattle.session.specs.Session.{tick_out, disconnect_out}
use Rattle.inbox.specs.Packets.{packets_size, packet_out, request_out}
use Rattle.link.specs.Link.{byte_out}
use Rattle.packed.specs.Words.{control_words, device_in}
use Rattle.machine.specs.Machine.{Machine, Call, Ran}

-- ---- the dongle

-- the control array, and the memories of the run, of commands and of packets
pub record Dongle : Type 0 where
  pub control : List ℕ
  pub run : List ℕ
  pub commands : List ℕ
  pub packets : List ℕ

-- at power-up: the first state, and zeros
abbrev pub first_dongle : Dongle
first_dongle =
    record {
      control = control_words power_up;
      run = replicate encoded_max 0;
      commands = replicate commands_size 0;
      packets = replicate packets_size 0;
    }

-- the device in code that it is
abbrev pub machine_in : Dongle → Machine
machine_in y = record { device = device_in y.control; run = y.run; commands = y.commands; packets = y.packets }

-- ---- what an answer leaves

abbrev pub control_after : Out → List ℕ
control_after x = control_words x.next

abbrev pub answer_after : Out → List ℕ
answer_after x = reply_numbers (replied x)

abbrev pub out_after : Out → List ℕ → List ℕ
out_after x o = lay 0 (frames_bytes x.writes) o

-- ---- tick, disconnect and clear: the control array, and the length of the output

pub record StateLent : Type 0 where
  pub control : List ℕ
  pub room : ℕ

pub record StateLeft : Type 0 where
  pub control : List ℕ
  pub answer : List ℕ

unfoldable pub state_call : (ℕ → Device → Out) → StateLent → StateLeft
state_call f y =
    let x = f y.room (device_in y.control) in
    record { control = control_after x; answer = answer_after x }

-- ---- byte: also the memories of the run and of commands, and the output

pub record ByteLent : Type 0 where
  pub control : List ℕ
  pub run : List ℕ
  pub commands : List ℕ
  pub out : List ℕ

pub record ByteLeft : Type 0 where
  pub control : List ℕ
  pub run : List ℕ
  pub commands : List ℕ
  pub out : List ℕ
  pub answer : List ℕ

unfoldable pub byte_call : ℕ → ByteLent → ByteLeft
byte_call b y =
    let x = byte_out (length y.out) b y.run y.commands (device_in y.control) in
    record {
      control = control_after x.gives;
      run = x.run;
      commands = x.commands;
      out = out_after x.gives y.out;
      answer = answer_after x.gives;
    }

-- ---- busy, sent, configured and fault: the memory of commands, to be read, and the output

pub record OutcomeLent : Type 0 where
  pub control : List ℕ
  pub commands : List ℕ
  pub out : List ℕ

pub record OutcomeLeft : Type 0 where
  pub control : List ℕ
  pub out : List ℕ
  pub answer : List ℕ

unfoldable pub outcome_call : (ℕ → List ℕ → Device → Out) → OutcomeLent → OutcomeLeft
outcome_call f y =
    let x = f (length y.out) y.commands (device_in y.control) in
    record { control = control_after x; out = out_after x y.out; answer = answer_after x }

-- ---- packet: the memory of packets, and the length of the output

pub record PacketLent : Type 0 where
  pub control : List ℕ
  pub packets : List ℕ
  pub room : ℕ

pub record PacketLeft : Type 0 where
  pub control : List ℕ
  pub packets : List ℕ
  pub answer : List ℕ

unfoldable pub packet_call : Packet → PacketLent → PacketLeft
packet_call p y =
    let x = packet_out y.room p y.packets (device_in y.control) in
    record { control = control_after x.gives; packets = x.packets; answer = answer_after x.gives }

-- ---- request: the memory of packets, and the output

pub record RequestLent : Type 0 where
  pub control : List ℕ
  pub packets : List ℕ
  pub out : List ℕ

pub record RequestLeft : Type 0 where
  pub control : List ℕ
  pub packets : List ℕ
  pub out : List ℕ
  pub answer : List ℕ

unfoldable pub request_call : RequestLent → RequestLeft
request_call y =
    let x = request_out (length y.out) y.packets (device_in y.control) in
    record { control = control_after x.gives; packets = x.packets; out = out_after x.gives y.out; answer = answer_after x.gives }

-- ---- a call of any event: what its function is not lent stays

-- the dongle that a call leaves, the answer's words and the output
pub record Left : Type 0 where
  pub next : Dongle
  pub answer : List ℕ
  pub out : List ℕ

abbrev pub call : Event → List ℕ → Call
call e o = record { event = e; out = o }

abbrev by_state : (ℕ → Device → Out) → List ℕ → Dongle → Left
by_state f o y =
    let x = state_call f (record { control = y.control; room = length o }) in
    record { next = record { control = x.control; run = y.run; commands = y.commands; packets = y.packets }; answer = x.answer; out = o }

abbrev by_outcome : (ℕ → List ℕ → Device → Out) → List ℕ → Dongle → Left
by_outcome f o y =
    let x = outcome_call f (record { control = y.control; commands = y.commands; out = o }) in
    record { next = record { control = x.control; run = y.run; commands = y.commands; packets = y.packets }; answer = x.answer; out = x.out }

abbrev pub called_on : Event → List ℕ → Dongle → Left
called_on (byte b) o y =
    let x = byte_call b (record { control = y.control; run = y.run; commands = y.commands; out = o }) in
    record { next = record { control = x.control; run = x.run; commands = x.commands; packets = y.packets }; answer = x.answer; out = x.out }
called_on tick o y = by_state tick_out o y
called_on clear o y = by_state clear_out o y
called_on busy o y = by_outcome busy_out o y
called_on (sent airtime) o y = by_outcome (sent_out airtime) o y
called_on configured o y = by_outcome configured_out o y
called_on fault o y = by_outcome fault_out o y
called_on (packet p) o y =
    let x = packet_call p (record { control = y.control; packets = y.packets; room = length o }) in
    record { next = record { control = x.control; run = y.run; commands = y.commands; packets = x.packets }; answer = x.answer; out = o }
called_on request o y =
    let x = request_call (record { control = y.control; packets = y.packets; out = o }) in
    record { next = record { control = x.control; run = y.run; commands = y.commands; packets = x.packets }; answer = x.answer; out = x.out }
called_on disconnect o y = by_state disconnect_out o y

unfoldable pub called : Dongle → Call → Left
called y c = called_on c.event c.out y

-- called-steps: it is the event of the device in code, in words
abbrev pub in_words : Ran → Left
in_words x =
    record {
      next = record { control = control_words x.next.device; run = x.next.run; commands = x.next.commands; packets = x.next.packets };
      answer = reply_numbers x.answer;
      out = x.out;
    }
