-- The dongle as C calls it, as a device of which the demands speak: what is seen of it is the words of its answers, the bytes of its output, and the bytes in
-- the memory of commands that an order names. proofs/ has the demands proved of it, under the names that they have in crate device.
-- Assumes nothing.
use Rattle.std.specs.Prelude.{ℕ, suc, ◌<◌, ◌≡◌, false, List, [], ◌∷◌, map, ltb, length, take, drop, get_or}
use Rattle.scalar.specs.Bytes.{Each}
use Rattle.device.specs.State.{held, byte}
use Rattle.device.specs.State as S
use Rattle.device.specs.Frames.{damaged}
use Rattle.device.specs.Events.{Reply}
use Rattle.device.specs.Demands.{Exact, System, history}
use Rattle.control.specs.Control.{radio_of, stalled, unconfigured}
use Rattle.queue.specs.Queue.{waiting_tags}
use Rattle.packed.specs.Words.{control_words, device_in, order_from}
use Rattle.machine.specs.Machine.{Call}
use Rattle.ffi_device.specs.Calls.{Dongle, first_dongle, machine_in, Left, call, in_words, called}
use Rattle.refinement.specs.Seen.{order_in}
use Rattle.refinement.specs.Refines.{input_of, CallIn, replies}
use Rattle.refinement.specs.Demands.{cause_in, brought, damage_reply}
use Rattle.refinement.specs.Named.{Orders}

-- the words of an answer: the number, and how many bytes were written
abbrev pub number_in : Left → ℕ
number_in x = get_or x.answer 0 0

abbrev pub count_in : Left → ℕ
count_in x = get_or x.answer 1 0

-- with as many bytes from the output's start on, and the order
unfoldable pub reply_from : Left → Reply
reply_from x =
    record {
      number = number_in x;
      count = count_in x;
      bytes = take (count_in x) x.out;
      order = order_in x.next.commands (order_from x.answer);
    }

abbrev pub exported : System
exported =
    record {
      State = Dongle;
      power_up = first_dongle;
      Given = Call;
      event = λ c. c.event;
      room = λ c. length c.out;
      GivenIn = CallIn;
      answer = λ y c. reply_from (called y c);
      next = λ y c. (called y c).next;
      radio = λ y. held (radio_of (device_in y.control).air.radio);
      waiting = λ y. waiting_tags y.commands (device_in y.control).air.first (device_in y.control).air.waiting;
      session = λ y. (device_in y.control).link.session;
      unconfigured = λ y. unconfigured (device_in y.control).mode;
      receiving = λ y. (device_in y.control).inbox.receiving;
    }

-- what C is answered, call by call
unfoldable pub answers : Dongle → List Call → List Reply
answers y [] = []
answers y (c ∷ cs) = reply_from (called y c) ∷ answers (called y c).next cs

-- refines: the number, the bytes written and the order are those of the definition at each call
abbrev pub Refines : List Call → Type 0
Refines cs = Each CallIn cs → answers first_dongle cs ≡ replies S.power_up (map input_of cs)

-- ---- demand 1

-- the answer's words of a refusal: its number, and nothing
abbrev pub refusal_words : ℕ → List ℕ
refusal_words n = n ∷ 0 ∷ 0 ∷ 0 ∷ 0 ∷ 0 ∷ 0 ∷ []

-- a dongle whose control array says the same in the library's own words
abbrev pub settled : Dongle → Dongle
settled y = record { control = control_words (device_in y.control); run = y.run; commands = y.commands; packets = y.packets }

-- a refusal: what is left of a dongle that is answered with the number n, and nothing
abbrev pub refusal : ℕ → Dongle → List ℕ → Left
refusal n y o = record { next = y; answer = refusal_words n; out = o }

-- demand1, for every control array and all memories: the causes are 01's, and a refusal leaves the memories and the output, and the state that the words stand
-- for
abbrev pub Demand1 : Dongle → Call → Type 0
Demand1 y c =
    Exact number_in (λ k. refusal k (settled y) c.out) (cause_in (machine_in y) c) (called y c)

-- unchanged: after any list of calls from power-up a refusal changes nothing at all
abbrev pub Unchanged : List Call → Call → Type 0
Unchanged cs c =
    let y = (history exported cs).device in
    (k : ℕ) → cause_in (machine_in y) c ≡ suc k → called y c ≡ refusal (suc k) y c.out

-- ---- demand 2, damaged frames

-- demand2, for every control array and all memories: a run that fails step 1 is answered as the code answers it, in words
abbrev pub Demand2 : Dongle → List ℕ → Type 0
Demand2 y o =
    let x = machine_in y in
    ltb (length o) 283 ≡ false → stalled x.device.air ≡ false → 0 < x.device.link.run → brought x ≡ damaged
    → called y (call (byte 0) o) ≡ in_words (damage_reply x o)

-- ---- the output

-- rest-stays, for every control array and all memories: bytes past the written ones stay
abbrev pub RestStays : Dongle → Call → Type 0
RestStays y c = drop (count_in (called y c)) (called y c).out ≡ drop (count_in (called y c)) c.out

-- ---- the bytes that an order names

-- bytes-stay, uninterrupted: crate refinement's statements, of the dongle as C calls it
abbrev pub exported_orders : Orders
exported_orders =
    record {
      State = Dongle;
      power_up = first_dongle;
      next = λ y c. (called y c).next;
      number = λ y c. number_in (called y c);
      order = λ y c. order_from (called y c).answer;
      commands = λ y. y.commands;
    }
