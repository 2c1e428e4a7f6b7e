-- The device in code answers as the device of the definition does: the statement. proofs/ has it proved, as `refines`.
-- Assumes nothing.
use Rattle.std.specs.Prelude.{ℕ, ◌≡◌, List, [], ◌∷◌, map, length, replicate}
use Rattle.std.proofs.lemmas.List.{length-replicate}
use Rattle.cobs.specs.Answers.{encoded_max}
use Rattle.scalar.specs.Bytes.{Each}
use Rattle.board.specs.Board.{sx1262}
use Rattle.device.specs.State.{State, Input}
use Rattle.device.specs.State as S
use Rattle.device.specs.Events.{step, Reply, reply}
use Rattle.device.specs.Ranges.{InputIn}
use Rattle.control.specs.Control.{power_up}
use Rattle.slot.specs.Slots.{commands_size}
use Rattle.inbox.specs.Packets.{packets_size}
use Rattle.machine.specs.Machine.{Machine, machine, Call, stepped}
use Rattle.refinement.specs.Seen.{reply_of}

-- ---- at power-up

-- three memories of the sizes that the code asks for; what stands in them may be anything
pub record Memories : Type 0 where
  pub run : List ℕ
  pub commands : List ℕ
  pub packets : List ℕ
  pub run_size : length run ≡ encoded_max
  pub commands_sized : length commands ≡ commands_size
  pub packets_sized : length packets ≡ packets_size

-- filled with zero, as the code's own are
abbrev pub zeros : Memories
zeros =
    record {
      run = replicate encoded_max 0;
      commands = replicate commands_size 0;
      packets = replicate packets_size 0;
      run_size = length-replicate {A = ℕ} _ 0;
      commands_sized = length-replicate {A = ℕ} _ 0;
      packets_sized = length-replicate {A = ℕ} _ 0;
    }

abbrev pub powered_up : Memories → Machine
powered_up w = machine power_up w.run w.commands w.packets

-- ---- every list of calls

-- a call as the definition has it: of the output its length counts
abbrev pub input_of : Call → Input
input_of c = record { room = length c.out; event = c.event }

-- each number of it is a value of its type
abbrev pub CallIn : Call → Type 0
CallIn c = InputIn (input_of c)

-- what the code answers, call by call
unfoldable pub answers : Machine → List Call → List Reply
answers y [] = []
answers y (c ∷ cs) = reply_of (stepped y c) ∷ answers (stepped y c).next cs

-- what the definition answers
unfoldable pub replies : State → List Input → List Reply
replies s [] = []
replies s (i ∷ is) = reply (step sx1262 s i) ∷ replies (step sx1262 s i).next is

-- refines: the number, the bytes written and the order are the same at each call
abbrev pub Refines : Memories → List Call → Type 0
Refines w cs = Each CallIn cs → answers (powered_up w) cs ≡ replies S.power_up (map input_of cs)
