-- Demand 1 of the code, and demand 2 for damaged frames, for every machine: the three causes of refusal are exact, a refusal changes nothing, and damage draws
-- ERR(EFRAME).
-- The idea: `Exact` says of any answer what demand 1 says of the call's. A refusal has it by computing, and what is taken has it as well; the radio and the
-- result of each test are arguments, so that every case computes.
-- Assumes nothing.
use mathlib.Core.Path.{◌≡◌, refl, ap, ◌∙◌}
use mathlib.Core.Bool.{Bool, true, false, cond, not, ◌&&◌}
use mathlib.Core.List.{List, [], ◌∷◌, append-nil}
use Prim.Native.Nat.{ℕ, zero, suc, ◌<◌}
use native.Mathlib.Nat.{zero-add, not-suc-le-zero}
use lib.Dec.{ltb}
use lib.ListN.{length, take}
use Rattle.status.specs.Numbers.{TAKEN, ROOM, STALL, PLACE}
use Rattle.buffer.proofs.Laws.{lay-none}
use Rattle.kind.specs.Kinds.{EFRAME}
use Rattle.cobs.specs.Answers.{encoded_max}
use Rattle.device.specs.State.{Packet, Event, byte, tick, clear, busy, sent, configured, fault, packet, request, disconnect}
use Rattle.device.specs.Messages.{seen, message_bytes, err}
use Rattle.device.specs.Frames.{Received, damaged, received}
use Rattle.device.specs.Reading.{brings}
use Rattle.device.proofs.Laws.{run-brings, same-free}
use Rattle.device.specs.Due.{is_free, is_listening, is_on_air, is_configuring}
use Rattle.device.specs.Demands.{Exact}
use Rattle.device.proofs.Refusals.{exact-taken, exact-refused}
use Rattle.control.specs.declared.Radio.{Radio}
use Rattle.control.specs.declared.Radio.TheVariants.{Free, Listening, OnAir, Orphan, Configuring}
use Rattle.control.specs.declared.Device.{Device}
use Rattle.control.specs.declared.Order.TheVariants.{Nothing}
use Rattle.control.specs.Control.{link, with_link, radio_of, stalled, Done, does, Out, taken, refused, within}
use Rattle.emit.specs.Emitting.{bytes_of, frames_bytes}
use Rattle.queue.specs.Queue.{next}
use Rattle.dispatch.specs.Commands.{command_gives, on_received}
use Rattle.outcome.specs.Outcomes.{on_clear, on_busy, on_sent, clear_out, busy_out, sent_out, fault_out, on_configured, configured_out}
use Rattle.inbox.specs.Packets.{packet_gives, on_packet, on_request, packet_out, request_out}
use Rattle.session.specs.Session.{tick_out, disconnect_out}
use Rattle.link.specs.Link.{ByteGives, byte_gives, on_run, on_zero, on_byte, byte_out}
use Rattle.machine.specs.Machine.{Machine, Call, Ran, with_output, without_output, stepped_on, stepped}
use Rattle.refinement.specs.Demands.{cause_in, refusal, Demand1, Demand2}

-- ---- what demand 1 says of an answer

abbrev Told : Device → ℕ → Out → Type 0
Told d n x = Exact (λ (z : Out). z.number) (λ k. refused k d) n x

refuses : (d : Device) (n : ℕ) → Told d n (refused n d)
refuses d n = exact-refused _ _ n refl

takes : (d : Device) (x : Done) → Told d TAKEN (taken x)
takes d x = exact-taken _ _ (taken x) refl

-- ---- the outcomes

exact-clear : (r : Radio) (d : Device) → Told d (cond (not (is_listening (radio_of r))) PLACE TAKEN) (on_clear r d)
exact-clear Free d = refuses d PLACE
exact-clear (Listening t) d = takes d _
exact-clear (OnAir t) d = refuses d PLACE
exact-clear Orphan d = refuses d PLACE
exact-clear Configuring d = refuses d PLACE

exact-busy : (r : Radio) (m : List ℕ) (d : Device) → Told d (cond (not (is_listening (radio_of r))) PLACE TAKEN) (on_busy r m d)
exact-busy Free m d = refuses d PLACE
exact-busy (Listening t) m d = takes d _
exact-busy (OnAir t) m d = refuses d PLACE
exact-busy Orphan m d = refuses d PLACE
exact-busy Configuring m d = refuses d PLACE

exact-sent : (airtime : ℕ) (r : Radio) (m : List ℕ) (d : Device) → Told d (cond (not (is_on_air (radio_of r))) PLACE TAKEN) (on_sent airtime r m d)
exact-sent airtime Free m d = refuses d PLACE
exact-sent airtime (Listening t) m d = refuses d PLACE
exact-sent airtime (OnAir t) m d = takes d _
exact-sent airtime Orphan m d = takes d _
exact-sent airtime Configuring m d = refuses d PLACE

exact-configured : (r : Radio) (m : List ℕ) (d : Device) → Told d (cond (not (is_configuring (radio_of r))) PLACE TAKEN) (on_configured r m d)
exact-configured Free m d = refuses d PLACE
exact-configured (Listening t) m d = refuses d PLACE
exact-configured (OnAir t) m d = refuses d PLACE
exact-configured Orphan m d = refuses d PLACE
exact-configured Configuring m d = takes d _

-- ROOM before all else
exact-room : (v : Bool) (d : Device) (n : ℕ) (x : Out) → Told d n x → Told d (cond v ROOM n) (cond v (refused ROOM d) x)
exact-room true d n x e = refuses d ROOM
exact-room false d n x e = e

-- ---- the calls

module _ (y : Machine) (o : List ℕ) where
  abbrev d : Device
  d = y.device

  abbrev short : Bool
  short = ltb (length o) 283

  abbrev Ends : ℕ → Ran → Type 0
  Ends n x = Exact (λ (z : Ran). z.answer.number) (λ k. refusal k y o) n x

  -- a refusal writes nothing
  writes_nothing : (n : ℕ) → with_output (refused n d) o y.run y.commands y.packets ≡ refusal n y o
  unfolding frames_bytes
  writes_nothing n = ap (λ (l : List ℕ). record { next = y; answer = record { device = d; number = n; written = 0; order = Nothing }; out = l }) (lay-none 0 o)

  still : (n : ℕ) → without_output (refused n d) o y.run y.commands y.packets ≡ refusal n y o
  unfolding frames_bytes
  still n = refl

  -- an event that leaves the memories
  speaking : (n : ℕ) (x : Out) → Told d n x → Ends n (with_output x o y.run y.commands y.packets)
  speaking n x e =
      let left : Out → Ran = λ z. with_output z o y.run y.commands y.packets in
      record { returns = e.returns; stays = λ k f. ap left (e.stays k f) ∙ writes_nothing (suc k) }

  keeping : (n : ℕ) (x : Out) → Told d n x → Ends n (without_output x o y.run y.commands y.packets)
  keeping n x e =
      record { returns = e.returns; stays = λ k f. ap (λ (z : Out). without_output z o y.run y.commands y.packets) (e.stays k f) ∙ still (suc k) }

  -- a byte
  abbrev feeding : ByteGives Out → Ran
  feeding x = with_output x.gives o x.run x.commands y.packets

  exact-byte : (z : ByteGives Done) (v w : Bool) → Ends (cond v ROOM (cond w STALL TAKEN))
      (feeding (cond v (byte_gives (refused ROOM d) y.run y.commands) (cond w (byte_gives (refused STALL d) y.run y.commands)
      (byte_gives (taken z.gives) z.run z.commands))))
  exact-byte z true w = speaking ROOM (refused ROOM d) (refuses d ROOM)
  exact-byte z false true = speaking STALL (refused STALL d) (refuses d STALL)
  exact-byte z false false = exact-taken _ _ _ refl

  -- a packet and a request
  exact-packet : (p : Packet) (v w : Bool) → Ends (cond v ROOM (cond (not w) PLACE TAKEN))
      (without_output (cond v (refused ROOM d) (on_packet w p y.packets d).gives) o y.run y.commands
      (cond v y.packets (on_packet w p y.packets d).packets))
  exact-packet p true w = keeping ROOM (refused ROOM d) (refuses d ROOM)
  exact-packet p false true = exact-taken _ _ _ refl
  exact-packet p false false = keeping PLACE (refused PLACE d) (refuses d PLACE)

  exact-request : (v : Bool) → Ends (cond v ROOM TAKEN)
      (with_output (cond v (refused ROOM d) (taken (on_request d.inbox.held y.packets d).gives)) o y.run y.commands
      (cond v y.packets (on_request d.inbox.held y.packets d).packets))
  exact-request true = speaking ROOM (refused ROOM d) (refuses d ROOM)
  exact-request false = exact-taken _ _ _ refl

  exact : (e : Event) → Ends (cause_in y (record { event = e; out = o })) (stepped_on e o y)
  unfolding within byte_out tick_out clear_out busy_out sent_out configured_out fault_out packet_out request_out disconnect_out
  exact (byte b) = exact-byte (on_byte b y.run y.commands d) short (stalled d.air)
  exact tick = keeping _ _ (exact-room short d TAKEN _ (takes d _))
  exact clear = keeping _ _ (exact-room short d _ _ (exact-clear d.air.radio d))
  exact busy = speaking _ _ (exact-room short d _ _ (exact-busy d.air.radio y.commands d))
  exact (sent airtime) = speaking _ _ (exact-room short d _ _ (exact-sent airtime d.air.radio y.commands d))
  exact configured = speaking _ _ (exact-room short d _ _ (exact-configured d.air.radio y.commands d))
  exact fault = speaking _ _ (exact-room short d TAKEN _ (takes d _))
  exact (packet p) =
      rw (same-free (radio_of d.air.radio)) (exact-packet p short (d.inbox.receiving && is_free (radio_of d.air.radio)))
  exact request = exact-request short
  exact disconnect = keeping _ _ (exact-room short d TAKEN _ (takes d _))

-- ---- the demands

-- 00, demand 1, for every machine
pub demand1 : (y : Machine) (c : Call) → Demand1 y c
unfolding stepped
demand1 y c = exact y c.out c.event

-- 00, demand 2, damaged frames, for every machine
module _ (y : Machine) (o : List ℕ) where
  abbrev woken : Device
  woken = with_link y.device (link true 0 0)

  damage : (n : ℕ) → 0 < n → cond (ltb encoded_max n) damaged (brings (take n y.run)) ≡ damaged
      → on_run n y.run y.commands y.device ≡ command_gives (does woken (seen (err EFRAME 0) ∷ []) Nothing) y.commands
  damage zero h e = absurd (not-suc-le-zero h)
  damage (suc n) h e = go (ltb encoded_max (suc n)) e
    where
      go : (v : Bool) → cond v damaged (brings (take (suc n) y.run)) ≡ damaged
          → cond v (on_received damaged y.commands woken) (on_received (received (take (suc n) y.run)) y.commands woken)
          ≡ command_gives (does woken (seen (err EFRAME 0) ∷ []) Nothing) y.commands
      go true f = refl
      go false f = ap (λ (r : Received). on_received r y.commands woken) (run-brings (take (suc n) y.run) ∙ f)

  pub demand2 : Demand2 y o
  unfolding stepped byte_out on_zero frames_bytes bytes_of message_bytes
  demand2 enough goes nonempty e =
      rw (enough, goes, damage y.device.link.run nonempty e) (simp (append-nil, zero-add))
