-- The bytes that an order named stay in the memory of commands until the radio has done with them, and no order comes while they bind it.
-- The idea: they lie in the slot that the radio uses, that of the TX with it or that of the SET_CONFIG. A command that is taken is kept in another slot, or is
-- what the call's order names; and only an order, or an outcome that is taken, has the radio use no slot.
-- The induction is over any device that goes in step with the code: so it serves the C functions too.
-- Assumes nothing.
use mathlib.Core.Path.{◌≡◌, refl, sym, ap, subst, ◌∙◌}
use mathlib.Core.Bool.{Bool, true, false, cond, not, ◌&&◌, true≢false, or-true}
use mathlib.Core.List.{List, [], ◌∷◌, ◌++◌}
use mathlib.Core.Logic.{⊎_elim}
use mathlib.Core.Option.{Option, none, some}
use Prim.Native.Nat.{ℕ, zero, suc, ◌+◌, ◌-◌, ◌*◌, ◌%◌, ◌<◌, ◌≤◌}
use native.Mathlib.Omega.{arith}
use native.Mathlib.Nat.{eq-zero-or-pos}
use borrow.Author.Tests.{eqb-true}
use lib.Dec.{leb, ltb, eqb}
use lib.ListN.{length, take, drop, length-drop, length-append, take-append-drop}
use lib.Seq.{length-take-le, take_at}
use Rattle.status.specs.Numbers.{ROOM}
use Rattle.scalar.specs.Bytes.{Each}
use Rattle.scalar.specs.Scalars.{le}
use Rattle.form.proofs.Laws.{exactly-size}
use Rattle.kind.specs.Kinds.{SET_CONFIG, TX, RX_START, RX_STOP, GET_INFO}
use Rattle.modulation.specs.Modulations.{config_form}
use Rattle.modulation.proofs.Laws.{form-bounds}
use Rattle.board.specs.Board.{sx1262}
use Rattle.cobs.specs.Answers.{encoded_max}
use Rattle.device.specs.State.{Config, Setting, Tx, State, Packet, Event, byte, tick, clear, busy, sent, configured, fault, packet, request, disconnect}
use Rattle.device.specs.State as S
use Rattle.device.specs.Messages.{seen, ok, ok_info}
use Rattle.device.specs.Frames.{Received, damaged, command, received, error_for}
use Rattle.device.specs.Events.{changed, ticks_max, room_min, step}
use Rattle.device.proofs.Keeping.{Shape, is-orphan, is-alone}
use Rattle.control.specs.declared.Radio.{Radio}
use Rattle.control.specs.declared.Radio.TheVariants.{Free, Listening, OnAir, Orphan, Configuring}
use Rattle.control.specs.declared.Air.{Air}
use Rattle.control.specs.declared.Device.{Device}
use Rattle.control.specs.declared.Order.{Order}
use Rattle.control.specs.declared.Order.TheVariants.{Nothing, Standby, Transmit}
use Rattle.control.specs.Control.{link, air, with_link, with_inbox, ring_emptied, free?, stalled, unconfigured, Done, does, Out, taken, refused, within, idle}
use Rattle.slot.specs.Slots.{slot_size, setting, slot_bytes, command_kept, len_at, tag_at, head_at}
use Rattle.queue.specs.Queue as Q
use Rattle.queue.specs.Queue.{start, begin, next, after_tx}
use Rattle.validation.proofs.Laws.{none-set, none-tx}
use Rattle.session.specs.Session.{ended, end_session, on_tick, on_disconnect, tick_out, disconnect_out}
use Rattle.outcome.specs.Outcomes.{
  on_clear,
  on_busy,
  on_sent,
  on_fault,
  clear_out,
  busy_out,
  sent_out,
  fault_out,
  rearmed,
  in_force,
  on_configured,
  configured_out,
}
use Rattle.inbox.specs.Packets.{on_packet, on_request, packet_out, request_out}
use Rattle.dispatch.specs.Commands.{CommandGives, command_gives, open#, slot_for, waits_too, on_tx, pends, sets, on_set, turned, at_once, on_command, unless}
use Rattle.dispatch.specs.Commands.{dispatched, on_received}
use Rattle.link.specs.Link.{ByteGives, byte_gives, longer, joins_run, on_join, on_run, on_zero, on_byte, byte_out}
use Rattle.machine.specs.Machine.{Machine, Call, stepped_on, stepped}
use Rattle.refinement.specs.Refines.{Memories, powered_up, input_of, CallIn}
use Rattle.refinement.specs.Named.{Named, on_air, needed_after, needed_still, naming, StayIf, Orders, Past, after_call, after_calls, past, BytesStay, binds}
use Rattle.refinement.specs.Named.{Uninterrupted, code_orders}
use Rattle.refinement.proofs.Slots.{At, laid, kept-before, kept-after}
use Rattle.refinement.proofs.Stands.{RadioAs, as-free, as-listening, as-on_air, as-orphan, as-configuring, PendingAs, as_none, as_some, SetAt, Queue}
use Rattle.refinement.proofs.Stands.{read-len}
use Rattle.refinement.proofs.Stands.{tx-len}
use Rattle.refinement.proofs.Refinement.{Meets, meets-next, meets-first}
use Rattle.refinement.proofs.Demands.{same-held}

-- ---- the slot that the radio uses

-- a slot, and whether the radio listens
data Use : Type 0 where
  use-of : ℕ → Bool → Use

-- the slot of the TX with the radio is the one before those that wait
abbrev used_by : Radio → ℕ → Option Use
used_by Free k = none
used_by (Listening t) k = some (use-of ((k + 15) % 16) true)
used_by (OnAir t) k = some (use-of ((k + 15) % 16) false)
used_by Orphan k = some (use-of ((k + 15) % 16) false)
used_by Configuring k = some (use-of setting false)

abbrev used : Air → Option Use
used a = used_by a.radio a.first

-- the bytes x lie in slot k of the memory m, and are what they were
record Inside (k : ℕ) (v : Bool) (x : Named) (m : List ℕ) : Type 0 where
  slot : k ≤ setting
  from : k * slot_size ≤ x.at
  to : x.at + x.size ≤ k * slot_size + slot_size
  same : take x.size (drop x.at m) ≡ x.bytes
  listens : x.listens ≡ v

-- where the radio uses a slot, bytes are needed, and lie in it
abbrev Uses : Option Use → Option Named → List ℕ → Type 0
Uses none none m = Unit {0}
Uses none (some x) m = ⊥
Uses (some (use-of k v)) none m = ⊥
Uses (some (use-of k v)) (some x) m = Inside k v x m

uses-stay : (o : Option Use) (w : Option Named) (m : List ℕ) → length m ≡ 4403 → Uses o w m → StayIf w m
uses-stay none none m l h = tt
uses-stay none (some x) m l h = absurd h
uses-stay (some (use-of k v)) none m l h = absurd h
uses-stay (some (use-of k v)) (some x) m l h = record { inside = omega (arith, h.slot, h.to); same = h.same }

-- ---- a command that is kept in another slot

abbrev Apart : ℕ → Option Use → Type 0
Apart j none = Unit {0}
Apart j (some (use-of k v)) = j ≡ k → ⊥

module _ (m : List ℕ) (j t : ℕ) (p : List ℕ) (long : length m ≡ 4403) (most : length p ≤ 256) (in_memory : j ≤ 16) where
  inside-kept : (k : ℕ) (v : Bool) (x : Named) → (j ≡ k → ⊥) → Inside k v x m → Inside k v x (command_kept m j t p)
  unfolding command_kept le
  inside-kept k v x ne h =
      let size : length x.bytes ≡ x.size =
      ap length (sym h.same) ∙ length-take-le x.size (drop x.at m) (rw length-drop (omega (arith, h.slot, h.to))) in
      let was : At m x.at x.bytes =
      record {
        rest = drop x.size (drop x.at m);
        stands = sym (take-append-drop x.size (drop x.at m)) ∙ ap (λ (l : List ℕ). l ++ drop x.size (drop x.at m)) h.same;
      } in
      let is : At (command_kept m j t p) x.at x.bytes =
      ⊎_elim
      (λ z. kept-after was (slot_bytes t p) (j * 259) (omega (arith, h.from)) (omega arith))
      (λ z. kept-before was (slot_bytes t p) (j * 259) (omega (arith, h.to, size)) (omega arith))
      (eq-zero-or-pos (j - k)) in
      record {
        slot = h.slot;
        from = h.from;
        to = h.to;
        same = rw is.stands (take_at x.bytes is.rest x.size size);
        listens = h.listens;
      }

  uses-kept : (o : Option Use) (w : Option Named) → Apart j o → Uses o w m → Uses o w (command_kept m j t p)
  uses-kept none none a h = tt
  uses-kept none (some x) a h = absurd h
  uses-kept (some (use-of k v)) none a h = absurd h
  uses-kept (some (use-of k v)) (some x) a h = inside-kept k v x a h

  -- its length byte
  len-kept : len_at (command_kept m j t p) j ≤ 255
  unfolding command_kept
  len-kept = omega (arith, read-len t p (laid m (slot_bytes t p) (j * 259) (omega arith)))

-- ---- what is known of a state that can be reached

-- the length bytes of a waiting SET_CONFIG and of the oldest waiting TX, and that a TX that is taken is kept in another slot than the one in use
record Sound (m : List ℕ) (a : Air) : Type 0 where
  long : length m ≡ 4403
  set : a.pending ≡ true → len_at m setting ≤ 255
  tx : (n : ℕ) → a.waiting ≡ suc n → len_at m (a.first % 16) ≤ 255
  apart : open# a < 16 → Apart (slot_for a) (used a)

set-short : {m : List ℕ} {c : Setting} → length m ≡ 4403 → SetAt m c → len_at m setting ≤ 255
unfolding le
set-short {m} {c} l s =
    let b = s.at in
    let e : length (drop 4144 m) ≡ length (slot_bytes c.tag s.payload ++ b.rest) = ap length b.stands in
    omega (arith, read-len c.tag s.payload b, length-drop 4144 m, length-append (slot_bytes c.tag s.payload) b.rest)

pending-short : {m : List ℕ} {v : Bool} {o : Option Setting} → length m ≡ 4403 → PendingAs m v o → v ≡ true → len_at m setting ≤ 255
pending-short l as_none e = absurd (true≢false (sym e))
pending-short l (as_some s) e = set-short l s

first_short : (m : List ℕ) (k n : ℕ) (ws : List Tx) → Queue m k ws → suc n ≡ length ws → len_at m k ≤ 255
unfolding le
first_short m k n [] q e = absurd (omega arith)
first_short m k n (x ∷ ws) q e = omega (arith, tx-len q.0, q.0.short)

slot_apart : {m : List ℕ} (k n : ℕ) {r : Radio} {s : S.Radio} {ws : List Tx} {o : Option Setting} {v : Bool} {c : Option Config}
    → RadioAs m r s → Shape s ws o v c → n ≡ length ws → length (S.held s) + n < 16 → Apart ((k + n) % 16) (used_by r k)
slot_apart k n as-free q e l = tt
slot_apart k n as-listening q e l = λ z. omega arith
slot_apart k n as-on_air q e l = λ z. omega arith
slot_apart k n as-orphan is-orphan e l = λ z. omega arith
slot_apart k n as-orphan is-alone e l = λ z. omega arith
slot_apart k n (as-configuring x) q e l = λ z. omega arith

sound : {y : Machine} {s : State} → Meets y s → Sound y.commands y.device.air
sound {y} {s} h =
    let a = h.stands.air in
    let k = y.device.air.first in
    let e : k % 16 ≡ k = omega (arith, a.first) in
    record {
      long = a.long;
      set = pending-short a.long a.pending;
      tx = λ n f. rw e (first_short y.commands k n s.air.waiting a.ring (sym f ∙ a.count));
      apart = λ l. slot_apart k y.device.air.waiting a.radio h.shaped a.count (rw (← same-held a.radio) l);
    }

-- ---- what an event gives

-- of the event e, by the air, the number, the order and the memory that it gives, where the radio needed w
record Went (e : Event) (a : Air) (n : ℕ) (o : Order) (m : List ℕ) (w : Option Named) : Type 0 where
  uses : Uses (used a) (naming e n o m w) m
  alone : binds (needed_still e n w) ≡ true → o ≡ Nothing

module _ (m : List ℕ) (d : Device) where
  -- it leaves what the radio needs in the slot that it uses then, and orders nothing while bytes bind the radio
  abbrev Goes : Event → Out → List ℕ → Type 0
  Goes e x m' = (w : Option Named) → Uses (used d.air) w m → Went e x.next.air x.number x.order m' w

  -- of what an event does that is taken
  abbrev Does : Event → Done → List ℕ → Type 0
  Does e x m' = Goes e (taken x) m'

  -- one of two, by a test
  either : (v : Bool) (e : Event) (x z : Done) → Does e x m → Does e z m → Does e (cond v x z) m
  either true e x z a b = a
  either false e x z a b = b

  -- neither the memory nor the slot in use changes, nothing is ordered, and the bytes are needed on
  rests : (e : Event) (x : Out) → ((w : Option Named) → needed_still e x.number w ≡ w) → x.order ≡ Nothing → used x.next.air ≡ used d.air → Goes e x m
  rests e x q o u w h = record { uses = rw (o, q w, u) h; alone = λ b. o }

  refuses : (e : Event) (n : ℕ) → Goes e (refused (suc n) d) m
  refuses e n = rests e (refused (suc n) d) (λ w. refl) refl refl

  -- the same of what is done
  stays : (e : Event) (x : Done) → ((w : Option Named) → needed_after e w ≡ w) → x.order ≡ Nothing → used x.next.air ≡ used d.air → Does e x m
  stays e x q o u = rests e (taken x) q o u

  -- an order may come with the event e, since it has the radio done, or the radio is free, or listens
  abbrev Yields : Event → Type 0
  Yields e = (w : Option Named) → Uses (used d.air) w m → binds (needed_after e w) ≡ false

  yields-free : (e : Event) → ((w : Option Named) → needed_after e w ≡ w) → d.air.radio ≡ Free → Yields e
  yields-free e q f none h = ap binds (q none)
  yields-free e q f (some x) h = absurd (rw f at h)

  yields-listening : (e : Event) → ((w : Option Named) → needed_after e w ≡ w) → (t : ℕ) → d.air.radio ≡ Listening t → Yields e
  yields-listening e q t f none h = absurd (rw f at h)
  yields-listening e q t f (some x) h = let i : Inside ((d.air.first + 15) % 16) true x m = rw f at h in ap binds (q (some x)) ∙ ap not i.listens

  orders : (e : Event) → Yields e → (w : Option Named) → Uses (used d.air) w m → {o : Order} → binds (needed_after e w) ≡ true → o ≡ Nothing
  orders e y w h b = absurd (true≢false (sym b ∙ y w h))

  -- the radio uses none
  frees : (e : Event) → Yields e → (x : Done) (on : Bool) → x.order ≡ idle on → used x.next.air ≡ none → Does e x m
  frees e y x true o u w h = record { uses = rw (o, u) tt; alone = orders e y w h }
  frees e y x false o u w h = record { uses = rw (o, u) tt; alone = orders e y w h }

  -- the TX in slot k starts
  begun : (e : Event) → Yields e → (m' : List ℕ) (k n : ℕ) → k < 16 → len_at m' k ≤ 255 → Does e (start m' k n d) m'
  unfolding start
  begun e y m' k n h l w u = record { uses = go (Q.listens d.mode (head_at m' k)); alone = orders e y w u }
    where
      go : (v : Bool) → Uses (used_by (Q.begun v (tag_at m' k)) ((k + 1) % 16)) (naming e 0 (Transmit (k * 259 + 4) (len_at m' k) v) m' w) m'
      go true = record { slot = omega arith; from = omega arith; to = omega arith; same = refl; listens = refl }
      go false = record { slot = omega arith; from = omega arith; to = omega arith; same = refl; listens = refl }

  -- the radio is configured
  sets-up : (e : Event) → Yields e → (m' : List ℕ) → len_at m' setting ≤ 255 → Does e (begin m' d) m'
  unfolding begin
  sets-up e y m' l w u =
      record { uses = record { slot = omega arith; from = omega arith; to = omega arith; same = refl; listens = refl }; alone = orders e y w u }

  module _ (s : Sound m d.air) where
    after-tx : (e : Event) → Yields e → Does e (after_tx m d) m
    unfolding after_tx
    after-tx e y = go d.air.pending refl d.air.waiting refl
      where
        go : (v : Bool) → d.air.pending ≡ v → (n : ℕ) → d.air.waiting ≡ n → Does e (next v n m d) m
        go true p n q = sets-up e y m (s.set p)
        go false p zero q = frees e y (next false zero m d) d.inbox.receiving refl refl
        go false p (suc n) q = begun e y m (d.air.first % 16) n (omega arith) (s.tx n q)

    -- ---- the outcomes

    go-clear : (r : Radio) → d.air.radio ≡ r → Goes clear (on_clear r d) m
    go-clear Free q = refuses clear 2
    go-clear (Listening t) q = λ w h. record { uses = goes-out w (rw q at h); alone = λ b. refl }
      where
        goes-out : (w : Option Named) → Uses (some (use-of ((d.air.first + 15) % 16) true)) w m
            → Uses (some (use-of ((d.air.first + 15) % 16) false)) (on_air w) m
        goes-out none h = absurd h
        goes-out (some x) h = record { slot = h.slot; from = h.from; to = h.to; same = h.same; listens = refl }
    go-clear (OnAir t) q = refuses clear 2
    go-clear Orphan q = refuses clear 2
    go-clear Configuring q = refuses clear 2

    go-busy : (r : Radio) → Goes busy (on_busy r m d) m
    go-busy Free = refuses busy 2
    go-busy (Listening t) = after-tx busy (λ w h. refl)
    go-busy (OnAir t) = refuses busy 2
    go-busy Orphan = refuses busy 2
    go-busy Configuring = refuses busy 2

    go-sent : (airtime : ℕ) (r : Radio) → Goes (sent airtime) (on_sent airtime r m d) m
    go-sent airtime Free = refuses (sent airtime) 2
    go-sent airtime (Listening t) = refuses (sent airtime) 2
    go-sent airtime (OnAir t) = after-tx (sent airtime) (λ w h. refl)
    go-sent airtime Orphan = after-tx (sent airtime) (λ w h. refl)
    go-sent airtime Configuring = refuses (sent airtime) 2

    in-force : (v : Bool) → Does configured (in_force v m d) m
    in-force true = λ w h. record { uses = go d.inbox.receiving w; alone = λ b. absurd (true≢false (sym b)) }
      where
        go : (on : Bool) (w : Option Named) → Uses none (naming configured 0 (rearmed on) m w) m
        go true w = tt
        go false w = tt
    in-force false = λ w h. record { uses = tt; alone = λ b. absurd (true≢false (sym b)) }

    go-configured : (r : Radio) → Goes configured (on_configured r m d) m
    go-configured Free = refuses configured 2
    go-configured (Listening t) = refuses configured 2
    go-configured (OnAir t) = refuses configured 2
    go-configured Orphan = refuses configured 2
    go-configured Configuring = in-force d.link.session

    go-fault : (r : Radio) → Does fault (on_fault r m d) m
    go-fault Free = after-tx fault (λ w h. refl)
    go-fault (Listening t) = after-tx fault (λ w h. refl)
    go-fault (OnAir t) = after-tx fault (λ w h. refl)
    go-fault Orphan = after-tx fault (λ w h. refl)
    go-fault Configuring = λ w h. record { uses = tt; alone = λ b. absurd (true≢false (sym b)) }

  -- ---- the session, reception

  -- a session's end: a radio that listened is free, and what is on air stays there
  ends : (e : Event) → ((w : Option Named) → needed_after e w ≡ w) → Does e (end_session d) m
  unfolding end_session
  ends e q = go d.air.radio refl
    where
      go : (r : Radio) → d.air.radio ≡ r → (w : Option Named) → Uses (used d.air) w m
          → Went e (air (ended r) false d.air.first 0) 0 (cond (free? (ended r)) Standby Nothing) m w
      go Free f w h = record { uses = tt; alone = orders e (yields-free e q f) w h }
      go (Listening t) f w h = record { uses = tt; alone = orders e (yields-listening e q t f) w h }
      go (OnAir t) f w h = record { uses = rw q (rw f at h); alone = λ b. refl }
      go Orphan f w h = record { uses = rw q (rw f at h); alone = λ b. refl }
      go Configuring f w h = record { uses = rw q (rw f at h); alone = λ b. refl }

  go-tick : Does tick (on_tick d) m
  go-tick =
      either (d.link.session && not (stalled d.air)) tick _ _
      (either (leb ticks_max (d.link.ticks + 1)) tick _ _ (ends tick (λ w. refl))
      (stays tick (does (with_link d (link true (d.link.ticks + 1) d.link.run)) [] Nothing) (λ w. refl) refl refl))
      (stays tick (does d [] Nothing) (λ w. refl) refl refl)

  go-disconnect : (v : Bool) → Does disconnect (on_disconnect v d) m
  go-disconnect true = ends disconnect (λ w. refl)
  go-disconnect false = stays disconnect (on_disconnect false d) (λ w. refl) refl refl

  go-packet : (v : Bool) (p : Packet) (ps : List ℕ) → Goes (packet p) (on_packet v p ps d).gives m
  go-packet true p ps = rests (packet p) (on_packet true p ps d).gives (λ w. refl) refl refl
  go-packet false p ps = refuses (packet p) 2

  go-request : (n : ℕ) (ps : List ℕ) → Does request (on_request n ps d).gives m
  go-request zero ps = stays request (does d [] Nothing) (λ w. refl) refl refl
  go-request (suc n) ps = stays request (on_request (suc n) ps d).gives (λ w. refl) refl refl

  -- with too little room nothing changes
  in-room : (room : ℕ) (e : Event) (x : Out) → Goes e x m → Goes e (within room d x) m
  unfolding within
  in-room room e x a = go (ltb room room_min)
    where
      go : (v : Bool) → Goes e (cond v (refused ROOM d) x) m
      go true = refuses e 0
      go false = a

-- ---- commands: they come with a zero

module _ (m : List ℕ) (d : Device) (s : Sound m d.air) (calm : stalled d.air ≡ false) where
  abbrev Rule : CommandGives → Type 0
  Rule x = Does m d (byte 0) x.done x.commands

  -- a TX: it starts, or waits in another slot than the one in use
  go-tx : (t : ℕ) (p : List ℕ) → length p ≤ 256 → open# d.air < 16 → Rule (on_tx t p m d)
  unfolding on_tx
  go-tx t p most bounded = go d.air.radio refl
    where
      m' : List ℕ
      m' = command_kept m (slot_for d.air) t p

      waits : Does m d (byte 0) (waits_too d) m'
      waits w h =
          record {
            uses = uses-kept m (slot_for d.air) t p s.long most (omega arith) (used d.air) w (s.apart bounded) h;
            alone = λ b. refl;
          }

      go : (r : Radio) → d.air.radio ≡ r → Does m d (byte 0) (cond (free? r) (start m' (slot_for d.air) d.air.waiting d) (waits_too d)) m'
      go Free q =
          begun m d (byte 0) (yields-free m d (byte 0) (λ w. refl) q) m' (slot_for d.air) d.air.waiting (omega arith)
          (len-kept m (slot_for d.air) t p s.long most (omega arith))
      go (Listening u) q = waits
      go (OnAir u) q = waits
      go Orphan q = waits
      go Configuring q = waits

  -- a SET_CONFIG has a slot of its own: the radio is configured, or it waits for what is on air
  go-set : (t : ℕ) (p : List ℕ) → length p ≤ 256 → Rule (on_set t p m d)
  unfolding on_set
  go-set t p most = go d.air.radio refl
    where
      m' : List ℕ
      m' = command_kept m setting t p

      e : Device
      e = with_inbox d (ring_emptied d.inbox)

      now : Yields m d (byte 0) → Does m d (byte 0) (begin m' e) m'
      now y = sets-up m e (byte 0) y m' (len-kept m setting t p s.long most (omega arith))

      waits : Apart setting (used d.air) → Does m d (byte 0) (pends e) m'
      waits a w h = record { uses = uses-kept m setting t p s.long most (omega arith) (used d.air) w a h; alone = λ b. refl }

      go : (r : Radio) → d.air.radio ≡ r → Does m d (byte 0) (sets r m' e) m'
      go Free q = now (yields-free m d (byte 0) (λ w. refl) q)
      go (Listening u) q = now (yields-listening m d (byte 0) (λ w. refl) u q)
      go (OnAir u) q = waits (rw q (λ z. omega arith))
      go Orphan q = waits (rw q (λ z. omega arith))
      go Configuring q = absurd (true≢false (sym (or-true d.air.pending) ∙ (rw q at calm)))

  -- any other command leaves the radio, but for receive or standby where it is free
  go-turned : (on : Bool) (t : ℕ) → Does m d (byte 0) (turned on t d) m
  unfolding turned
  go-turned on t = go d.air.radio refl (changed on d.inbox.receiving) on
    where
      still : Does m d (byte 0) (does d [] Nothing) m
      still = stays m d (byte 0) (does d [] Nothing) (λ w. refl) refl refl

      go : (r : Radio) → d.air.radio ≡ r → (v o : Bool) → Does m d (byte 0) (does d [] (cond (free? r && v) (idle o) Nothing)) m
      go Free q true o = frees m d (byte 0) (yields-free m d (byte 0) (λ w. refl) q) (does d [] (idle o)) o refl (rw q refl)
      go Free q false o = still
      go (Listening u) q v o = still
      go (OnAir u) q v o = still
      go Orphan q v o = still
      go Configuring q v o = still

  go_plain : (kind t : ℕ) → Does m d (byte 0) (at_once kind t d) m
  unfolding at_once
  go_plain kind t =
      either m d (eqb kind RX_START) (byte 0) _ _ (go-turned true t)
      (either m d (eqb kind RX_STOP) (byte 0) _ _ (go-turned false t)
      (either m d (eqb kind GET_INFO) (byte 0) _ _ (stays m d (byte 0) (does d (seen (ok_info sx1262 t) ∷ []) Nothing) (λ w. refl) refl refl)
      (stays m d (byte 0) (does d (seen (ok t) ∷ []) Nothing) (λ w. refl) refl refl)))

  module _ (kind t : ℕ) (p : List ℕ) where
    abbrev objected : ℕ → Option ℕ
    objected k = error_for sx1262 (unconfigured d.mode) (open# d.air) k p

    go-command : objected kind ≡ none → Rule (on_command kind t p m d)
    go-command e = go (eqb kind TX) refl (eqb kind SET_CONFIG) refl
      where
        go : (tx : Bool) → eqb kind TX ≡ tx → (set : Bool) → eqb kind SET_CONFIG ≡ set
            → Rule (cond tx (on_tx t p m d) (cond set (on_set t p m d) (command_gives (at_once kind t d) m)))
        go true a set b =
            let k = none-tx sx1262 (unconfigured d.mode) (open# d.air) p (subst (λ (i : ℕ). objected i ≡ none) (eqb-true kind TX a) e) in
            go-tx t p k.most k.room
        go false a true b =
            let f = none-set sx1262 (unconfigured d.mode) (open# d.air) p (subst (λ (i : ℕ). objected i ≡ none) (eqb-true kind SET_CONFIG b) e) in
            let l = form-bounds p (length p) (exactly-size (config_form p) (length p) f) in
            go-set t p (omega arith)
        go false a false b = go_plain kind t

    go-unless : (o : Option ℕ) → objected kind ≡ o → Rule (unless o kind t p m d)
    go-unless (some code) e = stays m d (byte 0) (unless (some code) kind t p m d).done (λ w. refl) refl refl
    go-unless none e = go-command e

  go-received : (f : Received) → Rule (on_received f m d)
  unfolding dispatched
  go-received damaged = stays m d (byte 0) (on_received damaged m d).done (λ w. refl) refl refl
  go-received (command kind t p) = go-unless kind t p (objected kind t p kind) refl

-- ---- a byte

module _ (run m : List ℕ) (d : Device) (s : Sound m d.air) where
  go-run : (calm : stalled d.air ≡ false) (n : ℕ) → Rule m d s calm (on_run n run m d)
  go-run calm zero = stays m d (byte 0) (does d [] Nothing) (λ w. refl) refl refl
  go-run calm (suc n) = go (ltb encoded_max (suc n))
    where
      e : Device
      e = with_link d (link true 0 0)

      go : (v : Bool) → Rule m d s calm (cond v (on_received damaged m e) (on_received (received (take (suc n) run)) m e))
      go true = go-received m e s calm damaged
      go false = go-received m e s calm (received (take (suc n) run))

  abbrev Feed : ℕ → ByteGives Out → Type 0
  Feed b x = Goes m d (byte b) x.gives x.commands

  either-fed : (v : Bool) (b : ℕ) (x z : ByteGives Out) → Feed b x → (v ≡ false → Feed b z) → Feed b (cond v x z)
  either-fed true b x z f g = f
  either-fed false b x z f g = g refl

  go-byte : (b : ℕ) → stalled d.air ≡ false → let x = on_byte b run m d in Feed b (byte_gives (taken x.gives) x.run x.commands)
  unfolding on_zero on_join
  go-byte zero calm = go-run calm d.link.run
  go-byte (suc n) calm = stays m d (byte (suc n)) (joins_run d (longer d.link.run)) (λ w. refl) refl refl

-- ---- every call

module _ (y : Machine) (s : Sound y.commands y.device.air) (o : List ℕ) where
  abbrev m : List ℕ
  m = y.commands

  abbrev d : Device
  d = y.device

  abbrev room : ℕ
  room = length o

  goes : (e : Event) → let x = stepped_on e o y in
      (w : Option Named) → Uses (used d.air) w m → Went e x.next.device.air x.answer.number x.answer.order x.next.commands w
  unfolding byte_out tick_out clear_out busy_out sent_out configured_out fault_out packet_out request_out disconnect_out
  goes (byte b) =
      either-fed y.run m d s (ltb room 283) b _ _ (refuses m d (byte b) 0)
      (λ q. either-fed y.run m d s (stalled d.air) b _ _ (refuses m d (byte b) 1) (go-byte y.run m d s b))
  goes tick = in-room m d room tick (taken (on_tick d)) (go-tick m d)
  goes clear = in-room m d room clear (on_clear d.air.radio d) (go-clear m d s d.air.radio refl)
  goes busy = in-room m d room busy (on_busy d.air.radio m d) (go-busy m d s d.air.radio)
  goes (sent airtime) = in-room m d room (sent airtime) (on_sent airtime d.air.radio m d) (go-sent m d s airtime d.air.radio)
  goes configured = in-room m d room configured (on_configured d.air.radio m d) (go-configured m d s d.air.radio)
  goes fault = in-room m d room fault (taken (on_fault d.air.radio m d)) (go-fault m d s d.air.radio)
  goes (packet p) =
      let v = d.inbox.receiving && free? d.air.radio in
      in-room m d room (packet p) (on_packet v p y.packets d).gives (go-packet m d v p y.packets)
  goes request = in-room m d room request (taken (on_request d.inbox.held y.packets d).gives) (go-request m d d.inbox.held y.packets)
  goes disconnect = in-room m d room disconnect (taken (on_disconnect d.link.session d)) (go-disconnect m d d.link.session)

went : {y : Machine} {s : State} → Meets y s → (c : Call) (w : Option Named) → Uses (used y.device.air) w y.commands
    → let x = stepped y c in Went c.event x.next.device.air x.answer.number x.answer.order x.next.commands w
unfolding stepped
went {y} h c w u = goes y (sound h) c.out c.event w u

-- ---- every list of calls, for any device that goes in step with the code

pub record InCode (y : Orders) (w : Memories) : Type 0 where
  pub machine : y.State → Machine
  pub power_up : machine y.power_up ≡ powered_up w
  pub next : (a : y.State) (s : State) → Meets (machine a) s → (c : Call) → CallIn c → machine (y.next a c) ≡ (stepped (machine a) c).next
  pub number : (a : y.State) (c : Call) → y.number a c ≡ (stepped (machine a) c).answer.number
  pub order : (a : y.State) (c : Call) → y.order a c ≡ (stepped (machine a) c).answer.order
  pub commands : (a : y.State) → y.commands a ≡ (machine a).commands

module _ (y : Orders) (w : Memories) (g : InCode y w) where
  -- what holds after each call
  record Held (h : Past y) : Type 0 where
    state : State
    meets : Meets (g.machine h.device) state
    uses : Uses (used (g.machine h.device).device.air) h.needed (g.machine h.device).commands

  held_next : (h : Past y) → Held h → (c : Call) → CallIn c → Held (after_call y h c)
  unfolding after_call
  held_next h k c i =
      let a = h.device in
      let x = stepped (g.machine a) c in
      let e = g.next a k.state k.meets c i in
      let m : y.commands (y.next a c) ≡ x.next.commands = g.commands (y.next a c) ∙ ap (λ (z : Machine). z.commands) e in
      let n : (after_call y h c).needed ≡ naming c.event x.answer.number x.answer.order x.next.commands h.needed =
      λ j. naming c.event (g.number a c j) (g.order a c j) (m j) h.needed in
      record {
        state = (step sx1262 k.state (input_of c)).next;
        meets = subst (λ (z : Machine). Meets z (step sx1262 k.state (input_of c)).next) (sym e) (meets-next k.meets c i);
        uses = rw (n, e) (went k.meets c h.needed k.uses).uses;
      }

  held_after : (h : Past y) → Held h → (cs : List Call) → Each CallIn cs → Held (after_calls y h cs)
  unfolding after_calls
  held_after h k [] l = k
  held_after h k (c ∷ cs) l = held_after (after_call y h c) (held_next h k c l.0) cs l.1

  held : (cs : List Call) → Each CallIn cs → Held (past y cs)
  unfolding past
  held cs l =
      held_after (record { device = y.power_up; needed = none })
      (record { state = S.power_up; meets = subst (λ (x : Machine). Meets x S.power_up) (sym g.power_up) (meets-first w); uses = rw g.power_up tt }) cs l

  module _ (cs : List Call) (l : Each CallIn cs) where
    pub stay-in-code : BytesStay y cs
    stay-in-code =
        let h = past y cs in
        let x = g.machine h.device in
        let k = held cs l in
        rw (g.commands h.device) (uses-stay (used x.device.air) h.needed x.commands k.meets.stands.air.long k.uses)

    pub alone-in-code : Uninterrupted y cs
    alone-in-code c i =
        let h = past y cs in
        let k = held cs l in
        rw (g.number h.device c, g.order h.device c) (went k.meets c h.needed k.uses).alone

-- ---- the code

module _ (w : Memories) where
  itself : InCode (code_orders w) w
  itself = record { machine = λ y. y; power_up = refl; next = λ y s h c i. refl; number = λ y c. refl; order = λ y c. refl; commands = λ y. refl }

  pub bytes-stay : (cs : List Call) → Each CallIn cs → BytesStay (code_orders w) cs
  bytes-stay cs l = stay-in-code (code_orders w) w itself cs l

  pub uninterrupted : (cs : List Call) → Each CallIn cs → Uninterrupted (code_orders w) cs
  uninterrupted cs l = alone-in-code (code_orders w) w itself cs l
