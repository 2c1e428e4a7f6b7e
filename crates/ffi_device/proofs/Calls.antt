-- What an event's own contract says, and what was stored of its answer, is what a call of C leaves; and a call of C is one of the device in code, in words.
-- Assumes nothing.
use mathlib.Core.Path.{◌≡◌, refl, sym, ap, ◌∙◌}
use mathlib.Core.List.{List}
use Prim.Native.Nat.{ℕ}
use Rattle.device.specs.State.{Event, byte, tick, clear, busy, sent, configured, fault, packet, request, disconnect}
use Rattle.control.specs.declared.Reply.{Reply}
use Rattle.control.specs.Control.{Out, reply_numbers, Returns}
use Rattle.packed.specs.Words.{control_words}
use Rattle.machine.specs.Machine.{Call, stepped, stepped_on}
use Rattle.ffi_device.specs.Calls.{Dongle, machine_in, control_after, answer_after, StateLeft, state_call, ByteLeft, byte_call, OutcomeLeft}
use Rattle.ffi_device.specs.Calls.{outcome_call, PacketLeft, packet_call, RequestLeft, request_call, called_on, called, in_words}

-- ---- what was stored

-- an answer that tells x, and the words of it that were stored
module _ {x : Out} {r : Reply} {c a : List ℕ} (t : Returns x r) (k : (c ≡ control_words r.device) × (a ≡ reply_numbers r)) where
  control-stored : control_after x ≡ c
  control-stored = sym (k.0 ∙ ap control_words t.state)

  answer-stored : answer_after x ≡ a
  answer-stored = sym (k.1 ∙ t.numbers)

  pub state-left : ◌≡◌ {A = StateLeft} (record { control = control_after x; answer = answer_after x }) (record { control = c; answer = a })
  state-left = rw (control-stored, answer-stored)

  pub byte_left : {run run' m m' o o' : List ℕ} → run' ≡ run → m' ≡ m → o' ≡ o
      → ◌≡◌ {A = ByteLeft} (record { control = control_after x; run = run; commands = m; out = o; answer = answer_after x })
      (record { control = c; run = run'; commands = m'; out = o'; answer = a })
  byte_left e f g = rw (control-stored, answer-stored, e, f, g)

  pub outcome-left : {o o' : List ℕ} → o' ≡ o
      → ◌≡◌ {A = OutcomeLeft} (record { control = control_after x; out = o; answer = answer_after x }) (record { control = c; out = o'; answer = a })
  outcome-left e = rw (control-stored, answer-stored, e)

  pub packet-left : {p p' : List ℕ} → p' ≡ p
      → ◌≡◌ {A = PacketLeft} (record { control = control_after x; packets = p; answer = answer_after x }) (record { control = c; packets = p'; answer = a })
  packet-left e = rw (control-stored, answer-stored, e)

  pub request-left : {p p' o o' : List ℕ} → p' ≡ p → o' ≡ o
      → ◌≡◌ {A = RequestLeft} (record { control = control_after x; packets = p; out = o; answer = answer_after x })
      (record { control = c; packets = p'; out = o'; answer = a })
  request-left e f = rw (control-stored, answer-stored, e, f)

-- ---- a call

on-called : (e : Event) (o : List ℕ) (y : Dongle) → called_on e o y ≡ in_words (stepped_on e o (machine_in y))
unfolding state_call byte_call outcome_call packet_call request_call
on-called (byte b) o y = refl
on-called tick o y = refl
on-called clear o y = refl
on-called busy o y = refl
on-called (sent airtime) o y = refl
on-called configured o y = refl
on-called fault o y = refl
on-called (packet p) o y = refl
on-called request o y = refl
on-called disconnect o y = refl

pub called-steps : (y : Dongle) (c : Call) → called y c ≡ in_words (stepped (machine_in y) c)
unfolding called stepped
called-steps y c = on-called c.event c.out y
