-- The demands as statements about the device in code: 00, demands 1 to 3; 01's last line under "What each event does"; the drop count of P 6.9. Demand 1, and
-- demand 2 for damaged frames, speak of every state and all memories, also of such as no list of events leads to. What is demanded after a list of events is
-- stated in crate device for any device: here is the code as such a device.
-- proofs/ has each of them proved of the code, under the name that stands above it here or there.
-- Assumes nothing.
use Rattle.std.specs.Prelude.{ℕ, ◌<◌, ◌≡◌, true, false, cond, List, ltb, length, take, drop}
use Rattle.status.specs.Numbers.{TAKEN}
use Rattle.buffer.specs.Lay.{lay}
use Rattle.cobs.specs.Answers.{encoded_max}
use Rattle.device.specs.State.{held, byte}
use Rattle.kind.specs.Kinds.{EFRAME}
use Rattle.device.specs.Messages.{message_bytes}
use Rattle.device.specs.Frames.{Received, damaged}
use Rattle.device.specs.Reading.{brings}
use Rattle.device.specs.Due.{cause, err_due}
use Rattle.device.specs.Demands.{Exact, System}
use Rattle.control.specs.declared.Order.TheVariants.{Nothing}
use Rattle.control.specs.Control.{link, with_link, radio_of, stalled, unconfigured}
use Rattle.queue.specs.Queue.{waiting_tags}
use Rattle.machine.specs.Machine.{Machine, machine, Call, Ran, stepped}
use Rattle.refinement.specs.Seen.{reply_of}
use Rattle.refinement.specs.Refines.{Memories, powered_up, CallIn}

-- ---- demand 1, for every machine

-- the cause of a refusal, as the definition has it
abbrev pub cause_in : Machine → Call → ℕ
cause_in y c =
    cause (length c.out) (stalled y.device.air) (radio_of y.device.air.radio) y.device.inbox.receiving c.event

-- a refusal: the state, the memories and the output stay, no byte of it counts as written, and nothing is ordered
abbrev pub refusal : ℕ → Machine → List ℕ → Ran
refusal n y o =
    record { next = y; answer = record { device = y.device; number = n; written = 0; order = Nothing }; out = o }

-- demand1
abbrev pub Demand1 : Machine → Call → Type 0
Demand1 y c = Exact (λ (x : Ran). x.answer.number) (λ k. refusal k y c.out) (cause_in y c) (stepped y c)

-- ---- demand 2, damaged frames, for every machine

-- what the run brings: one over 282 bytes is damaged
abbrev pub brought : Machine → Received
brought y = cond (ltb encoded_max y.device.link.run) damaged (brings (take y.device.link.run y.run))

-- the answer to damage: ERR(EFRAME) with tag 0, and nothing changes but session, liveness count and run
abbrev pub damage_reply : Machine → List ℕ → Ran
damage_reply y o =
    let d = with_link y.device (link true 0 0) in
    record {
      next = machine d y.run y.commands y.packets;
      answer = record { device = d; number = TAKEN; written = length (message_bytes (err_due EFRAME 0)); order = Nothing };
      out = lay 0 (message_bytes (err_due EFRAME 0)) o;
    }

-- demand2
abbrev pub Demand2 : Machine → List ℕ → Type 0
Demand2 y o =
    ltb (length o) 283 ≡ false → stalled y.device.air ≡ false → 0 < y.device.link.run → brought y ≡ damaged
    → stepped y (record { event = byte 0; out = o }) ≡ damage_reply y o

-- ---- the output, for every machine

-- rest-stays: 01 "Bytes on the wire", bytes past the written ones stay
abbrev pub RestStays : Machine → Call → Type 0
RestStays y c = drop (stepped y c).answer.written (stepped y c).out ≡ drop (stepped y c).answer.written c.out

-- ---- the code as a device of which demands 2 and 3 speak

abbrev pub coded : Memories → System
coded w =
    record {
      State = Machine;
      power_up = powered_up w;
      Given = Call;
      event = λ c. c.event;
      room = λ c. length c.out;
      GivenIn = CallIn;
      answer = λ y c. reply_of (stepped y c);
      next = λ y c. (stepped y c).next;
      radio = λ y. held (radio_of y.device.air.radio);
      waiting = λ y. waiting_tags y.commands y.device.air.first y.device.air.waiting;
      session = λ y. y.device.link.session;
      unconfigured = λ y. unconfigured y.device.mode;
      receiving = λ y. y.device.inbox.receiving;
    }
