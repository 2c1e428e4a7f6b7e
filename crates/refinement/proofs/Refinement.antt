-- The device in code goes in step with the device of the definition, from power-up on.
-- The idea: a state of the code stands for one of the definition (Stands), each event keeps that and is answered alike, and of the states of the definition
-- that can be reached its own invariants are known (Keeping, Ranges).
-- Assumes nothing.
use mathlib.Core.Path.{◌≡◌, refl, sym, ap, ap₂, subst, ◌∙◌}
use mathlib.Core.Bool.{Bool, true, false, cond, not, ◌&&◌}
use mathlib.Core.List.{List, [], ◌∷◌, map}
use Prim.Native.Nat.{ℕ, ◌+◌}
use native.Mathlib.Omega.{arith}
use lib.Dec.{leb, ltb}
use lib.ListN.{length, take}
use Rattle.status.specs.Numbers.{ROOM, STALL}
use Rattle.buffer.specs.Lay.{lay}
use Rattle.scalar.specs.Bytes.{Each}
use Rattle.frame.proofs.Laws.{take-laid}
use Rattle.board.specs.Board.{sx1262}
use Rattle.device.specs.State.{State, Packet, Event, byte, tick, clear, busy, sent, configured, fault, packet, request, disconnect}
use Rattle.device.specs.State as S
use Rattle.device.specs.Messages.{messages_bytes}
use Rattle.device.specs.Events.{ticks_max, Reply, reply, step, on_event, unless_room}
use Rattle.device.specs.Events as E
use Rattle.device.proofs.Keeping.{is_free, Shaped, none-waits}
use Rattle.device.proofs.Keeping as K
use Rattle.device.proofs.Ranges.{StateIn, at-power-up, sx1262-in}
use Rattle.device.proofs.Ranges as R
use Rattle.emit.specs.Emitting.{frames_bytes}
use Rattle.emit.proofs.Laws.{sends-seen}
use Rattle.control.specs.declared.Radio.{Radio}
use Rattle.control.specs.declared.Radio.TheVariants.{Free, Listening, OnAir, Orphan, Configuring}
use Rattle.control.specs.declared.Device.{Device}
use Rattle.control.specs.declared.Order.TheVariants.{Nothing}
use Rattle.control.specs.Control.{link, with_link, free?, stalled, does, Out, taken, refused, within}
use Rattle.outcome.specs.Outcomes.{on_clear, on_busy, on_sent, on_fault, clear_out, busy_out, sent_out, fault_out, on_configured, configured_out}
use Rattle.inbox.specs.Packets.{on_packet, on_request, packet_out, request_out}
use Rattle.session.specs.Session.{end_session, on_tick, on_disconnect, tick_out, disconnect_out}
use Rattle.link.specs.Link.{ByteGives, byte_gives, on_byte, byte_out}
use Rattle.machine.specs.Machine.{Machine, Call, Ran, with_output, without_output, stepped_on, stepped}
use Rattle.refinement.specs.Seen.{reply_of}
use Rattle.refinement.specs.Refines.{Memories, powered_up, input_of, CallIn, answers, replies, Refines}
use Rattle.refinement.proofs.Stands.{as-free, Stands, Answered, takes, refuses, empty-link, empty-air, empty-inbox}
use Rattle.refinement.proofs.Outcomes.{on-clear, on-busy, on-sent, on-configured, on-fault}
use Rattle.refinement.proofs.Inbox.{same-free, on-packet, on-request}
use Rattle.refinement.proofs.Link.{same-stalled, on-tick, on-disconnect}
use Rattle.refinement.proofs.Byte.{on-byte}

-- ---- one call

-- a machine stands for a state
abbrev pub Stood : Machine → State → Type 0
Stood y s = Stands y.device y.run y.commands y.packets s

-- it is answered alike, and stands for the next state
pub record Alike (x : Ran) (o : E.Out) : Type 0 where
  pub reply : reply_of x ≡ reply o
  pub next : Stood x.next o.next

module _ {x : Out} {run m p : List ℕ} {o : E.Out} (a : Answered x run m p o) (out : List ℕ) where
  same_bytes : frames_bytes x.writes ≡ messages_bytes o.written
  same_bytes = ap frames_bytes a.writes ∙ sends-seen o.written

  speaking : Alike (with_output x out run m p) o
  unfolding reply_of
  speaking =
      record {
        reply =
            let bs = frames_bytes x.writes in
            let b : take (length bs) (lay 0 bs out) ≡ messages_bytes o.written = take-laid bs out ∙ same_bytes in
            let n : length (frames_bytes x.writes) ≡ length (messages_bytes o.written) = ap length same_bytes in
            λ j. record { number = a.number j; count = n j; bytes = b j; order = a.order j };
        next = a.next;
      }

  still : x.writes ≡ [] → Alike (without_output x out run m p) o
  unfolding reply_of frames_bytes
  still q =
      record {
        reply =
            let b : take (length (frames_bytes x.writes)) out ≡ messages_bytes o.written = rw q (sym (ap frames_bytes q) ∙ same_bytes) in
            let n : length (frames_bytes x.writes) ≡ length (messages_bytes o.written) = ap length same_bytes in
            λ j. record { number = a.number j; count = n j; bytes = b j; order = a.order j };
        next = a.next;
      }

-- events that write nothing
quiet-clear : (r : Radio) (d : Device) → (on_clear r d).writes ≡ []
quiet-clear Free d = refl
quiet-clear (Listening t) d = refl
quiet-clear (OnAir t) d = refl
quiet-clear Orphan d = refl
quiet-clear Configuring d = refl

quiet-tick : (d : Device) → (on_tick d).writes ≡ []
unfolding end_session
quiet-tick d = go (d.link.session && not (stalled d.air)) (leb ticks_max (d.link.ticks + 1))
  where
    go : (v a : Bool) → (cond v (cond a (end_session d) (does (with_link d (link true (d.link.ticks + 1) d.link.run)) [] Nothing))
        (does d [] Nothing)).writes ≡ []
    go true true = refl
    go true false = refl
    go false a = refl

quiet-disconnect : (v : Bool) (d : Device) → (on_disconnect v d).writes ≡ []
unfolding end_session
quiet-disconnect true d = refl
quiet-disconnect false d = refl

quiet-packet : (v : Bool) (p : Packet) (ps : List ℕ) (d : Device) → (on_packet v p ps d).gives.writes ≡ []
quiet-packet true p ps d = refl
quiet-packet false p ps d = refl

module _ (y : Machine) (s : State) (h : Stood y s) (q : Shaped s) (g : StateIn s) (o : List ℕ) where
  abbrev d : Device
  d = y.device

  -- ROOM comes first
  abbrev short : Bool
  short = ltb (length o) 283

  by-room : (v : Bool) (e : Event) (x : Out) (ps : List ℕ) → Answered x y.run y.commands ps (on_event sx1262 e s)
      → Answered (cond v (refused ROOM d) x) y.run y.commands (cond v y.packets ps) (unless_room v sx1262 e s)
  by-room true e x ps a = refuses h 1
  by-room false e x ps a = a

  quiet-room : (v : Bool) (x : Out) → x.writes ≡ [] → (cond v (refused ROOM d) x).writes ≡ []
  quiet-room true x e = refl
  quiet-room false x e = e

  same-packets : (v : Bool) → cond v y.packets y.packets ≡ y.packets
  same-packets true = refl
  same-packets false = refl

  -- an event that leaves the memories
  leaves : (e : Event) (x : Out) → Answered x y.run y.commands y.packets (on_event sx1262 e s)
      → Answered (cond short (refused ROOM d) x) y.run y.commands y.packets (unless_room short sx1262 e s)
  leaves e x a =
      subst (λ (ps : List ℕ). Answered (cond short (refused ROOM d) x) y.run y.commands ps (unless_room short sx1262 e s)) (same-packets short)
      (by-room short e x y.packets a)

  -- a byte: ROOM, then STALL
  abbrev Feeding : ByteGives Out → E.Out → Type 0
  Feeding x u = Answered x.gives x.run x.commands y.packets u

  feeds : (b : ℕ) (v w : Bool) → stalled d.air ≡ w
      → let x = on_byte b y.run y.commands d in
      Feeding (cond v (byte_gives (refused ROOM d) y.run y.commands) (cond w (byte_gives (refused STALL d) y.run y.commands)
      (byte_gives (taken x.gives) x.run x.commands)))
      (cond v (E.refused ROOM s) (E.unless_stalled w sx1262 b s))
  feeds b true w e = refuses h 1
  feeds b false true e = refuses h 2
  feeds b false false e = takes (on-byte h e g.air (none-waits q) g.run b)

  fed-room : (b : ℕ) (v : Bool) → cond v (E.refused ROOM s) (E.unless_stalled (stalled d.air) sx1262 b s) ≡ unless_room v sx1262 (byte b) s
  fed-room b true = refl
  fed-room b false = ap (λ (w : Bool). E.unless_stalled w sx1262 b s) (same-stalled h.air)

  on_fits : (p : Packet)
      → let x = on_packet (d.inbox.receiving && free? d.air.radio) p y.packets d in
      Answered x.gives y.run y.commands x.packets (on_event sx1262 (packet p) s)
  on_fits p =
      subst (λ (v : Bool). Answered (on_packet (d.inbox.receiving && free? d.air.radio) p y.packets d).gives y.run y.commands
      (on_packet (d.inbox.receiving && free? d.air.radio) p y.packets d).packets (E.on_packet v p s))
      (ap₂ ◌&&◌ h.inbox.receiving (same-free h.air.radio))
      (on-packet h p (d.inbox.receiving && free? d.air.radio))

  steps : (e : Event) → Alike (stepped_on e o y) (unless_room short sx1262 e s)
  unfolding within byte_out tick_out clear_out busy_out sent_out configured_out fault_out packet_out request_out disconnect_out
  steps (byte b) =
      speaking (subst (λ (u : E.Out). Feeding (byte_out (length o) b y.run y.commands d) u) (fed-room b short) (feeds b short (stalled d.air) refl)) o
  steps tick = still (leaves tick (taken (on_tick d)) (takes (on-tick h))) o (quiet-room short (taken (on_tick d)) (quiet-tick d))
  steps clear =
      still (leaves clear (on_clear d.air.radio d) (on-clear h h.air.radio)) o
      (quiet-room short (on_clear d.air.radio d) (quiet-clear d.air.radio d))
  steps busy = speaking (leaves busy (on_busy d.air.radio y.commands d) (on-busy h g.air h.air.radio)) o
  steps (sent airtime) =
      speaking (leaves (sent airtime) (on_sent airtime d.air.radio y.commands d) (on-sent h g.air airtime h.air.radio)) o
  steps configured = speaking (leaves configured (on_configured d.air.radio y.commands d) (on-configured h h.air.radio)) o
  steps fault = speaking (leaves fault (taken (on_fault d.air.radio y.commands d)) (takes (on-fault h g.air h.air.radio))) o
  steps (packet p) =
      let x = on_packet (d.inbox.receiving && free? d.air.radio) p y.packets d in
      still (by-room short (packet p) x.gives x.packets (on_fits p)) o
      (quiet-room short x.gives (quiet-packet (d.inbox.receiving && free? d.air.radio) p y.packets d))
  steps request =
      let x = on_request d.inbox.held y.packets d in
      speaking (by-room short request (taken x.gives) x.packets (takes (on-request h))) o
  steps disconnect =
      still (leaves disconnect (taken (on_disconnect d.link.session d)) (takes (on-disconnect h))) o
      (quiet-room short (taken (on_disconnect d.link.session d)) (quiet-disconnect d.link.session d))

-- ---- every list of calls

-- what joins a machine to a state that can be reached
pub record Meets (y : Machine) (s : State) : Type 0 where
  pub stands : Stood y s
  pub shaped : Shaped s
  pub ranges : StateIn s

module _ {y : Machine} {s : State} (h : Meets y s) (c : Call) (i : CallIn c) where
  alike : Alike (stepped y c) (step sx1262 s (input_of c))
  unfolding stepped step
  alike = steps y s h.stands h.shaped h.ranges c.out c.event

  pub same-reply : reply_of (stepped y c) ≡ reply (step sx1262 s (input_of c))
  same-reply = alike.reply

  pub meets-next : Meets (stepped y c).next (step sx1262 s (input_of c)).next
  meets-next =
      record {
        stands = alike.next;
        shaped = (K.keeps sx1262 [] s (input_of c) h.shaped).shape;
        ranges = (R.keeps sx1262 sx1262-in s h.ranges (input_of c) i).next;
      }

-- any three memories stand for the state at power-up
pub meets-first : (w : Memories) → Meets (powered_up w) S.power_up
meets-first w =
    record {
      stands =
          record {
            link = empty-link false 0 (omega arith) w.run_size;
            mode = refl;
            air = empty-air 0 as-free (omega arith) w.commands_sized;
            inbox = empty-inbox 0 refl (omega arith) w.packets_sized;
          };
      shaped = is_free;
      ranges = at-power-up;
    }

all_alike : (y : Machine) (s : State) → Meets y s → (cs : List Call) → Each CallIn cs → answers y cs ≡ replies s (map input_of cs)
unfolding answers replies
all_alike y s h [] l = refl
all_alike y s h (c ∷ cs) l =
    ap₂ (λ (r : Reply) (rs : List Reply). r ∷ rs) (same-reply h c l.0)
    (all_alike (stepped y c).next (step sx1262 s (input_of c)).next (meets-next h c l.0) cs l.1)

pub refines : (w : Memories) (cs : List Call) → Refines w cs
refines w cs l = all_alike (powered_up w) S.power_up (meets-first w) cs l
