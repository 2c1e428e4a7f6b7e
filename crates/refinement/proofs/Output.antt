-- Past the bytes that a call counts the output is as it was, for every machine.
-- The idea: what a call writes is laid from the output's start on, and counted whole.
-- Assumes nothing.
use mathlib.Core.Path.{◌≡◌, refl}
use mathlib.Core.List.{List}
use Prim.Native.Nat.{ℕ}
use native.Mathlib.Nat.{zero-add}
use lib.ListN.{length, drop}
use lib.Seq.{drop-append_seam}
use Rattle.buffer.specs.Lay.{lay}
use Rattle.device.specs.State.{Event, byte, tick, clear, busy, sent, configured, fault, packet, request, disconnect}
use Rattle.emit.specs.Emitting.{frames_bytes}
use Rattle.control.specs.Control.{Out}
use Rattle.outcome.specs.Outcomes.{busy_out, sent_out, fault_out, configured_out}
use Rattle.inbox.specs.Packets.{request_out}
use Rattle.link.specs.Link.{byte_out}
use Rattle.machine.specs.Machine.{Machine, Call, with_output, stepped_on, stepped}
use Rattle.refinement.specs.Demands.{RestStays}

past-laid : (bs o : List ℕ) → drop (length bs) (lay 0 bs o) ≡ drop (length bs) o
unfolding lay
past-laid bs o = rw zero-add (drop-append_seam bs (drop (length bs) o))

-- an event that writes
past-written : (x : Out) (o run m p : List ℕ) → let z = with_output x o run m p in drop z.answer.written z.out ≡ drop z.answer.written o
past-written x o run m p = past-laid (frames_bytes x.writes) o

rest : (e : Event) (o : List ℕ) (y : Machine) → let x = stepped_on e o y in drop x.answer.written x.out ≡ drop x.answer.written o
rest (byte b) o y = let x = byte_out (length o) b y.run y.commands y.device in past-written x.gives o x.run x.commands y.packets
rest tick o y = refl
rest clear o y = refl
rest busy o y = past-written (busy_out (length o) y.commands y.device) o y.run y.commands y.packets
rest (sent airtime) o y = past-written (sent_out airtime (length o) y.commands y.device) o y.run y.commands y.packets
rest configured o y = past-written (configured_out (length o) y.commands y.device) o y.run y.commands y.packets
rest fault o y = past-written (fault_out (length o) y.commands y.device) o y.run y.commands y.packets
rest (packet p) o y = refl
rest request o y = let x = request_out (length o) y.packets y.device in past-written x.gives o y.run y.commands x.packets
rest disconnect o y = refl

pub rest-stays : (y : Machine) (c : Call) → RestStays y c
unfolding stepped
rest-stays y c = rest c.event c.out y
