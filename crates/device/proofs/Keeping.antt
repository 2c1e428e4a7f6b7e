-- What joins the tally to the device's state, and that each event keeps it.
-- The idea: the tally is a function of the state and of the closed TX, `tally_of`; and a state that can be reached has one of six shapes.
-- An event closes some TX (`more`), writes a TX_DONE for each of them that it reports, and leaves the rest as the device has them.
-- Assumes nothing.
use mathlib.Core.Path.{◌≡◌, refl, sym, ap, ◌∙◌}
use mathlib.Core.Bool.{Bool, true, false, cond, ◌&&◌, not, and-false, true≢false}
use mathlib.Core.List.{List, [], ◌∷◌, ◌++◌, map, append-nil, append_assoc}
use mathlib.Core.Option.{Option, none, some}
use Prim.Native.Nat.{ℕ, zero, suc, ◌+◌, ◌≤◌, ◌<◌, zero-le}
use native.Mathlib.Omega.{arith}
use native.Mathlib.Nat.{le_refl}
use lib.ListN.{length, length-append, length-map}
use lib.Dec.{ltb, eqb}
use Rattle.kind.specs.Kinds.{SET_CONFIG, TX, RX_START, RX_STOP, GET_INFO, is_command, ENOTCONFIGURED, EUNKNOWN_CMD, ERADIO, TRANSMITTED, CANCELLED}
use Rattle.scalar.specs.Scalars.{get}
use Rattle.command.specs.Commands.{flags}
use Rattle.board.specs.Board.{Board}
use Rattle.device.specs.State.{Config, Setting, Tx, Radio, free, listening, on_air, orphan, configuring, Packet}
use Rattle.device.specs.State.{Inbox, State, link, air, state, held, tags_of, open#, runs?, stalled}
use Rattle.device.specs.State.{Event, byte, tick, clear, busy, sent, configured, fault, packet, request}
use Rattle.device.specs.State.{disconnect, Input, Order, nothing, standby, configure, transmit, receive, free?}
use Rattle.device.specs.Messages.{Frame, Message, ok, ok_info, err, tx_done, seen}
use Rattle.device.specs.Frames.{Received, damaged, command, error_of, setting_of, tx_of}
use Rattle.device.specs.Reading.{brings}
use Rattle.device.specs.Events.{Out, taken, changed, next, refused, begun, listens, idle, writes_first, on_tx, ring_emptied, on_set, on_command}
use Rattle.device.specs.Events.{turned, unless, on_received, on_byte, on_packet, on_request, on_event, end_session, unless_room, step, room_min, ticks_max}
use Rattle.device.specs.Tally.{session_ended, after_time, with_txs, radio_reported, Entry, Tally, tally, if_taken}
use Rattle.device.specs.Tally.{after_taken, after_order, unless_configure, nothing_pending, noted, dones, newly_reported}
use Rattle.device.specs.Demands.{Closed, was_reported, was_dropped, closed, outcome?}
use Rattle.device.proofs.Laws.{run-brings, at_radio, in_queue, past-radio, past-reported, past-dropped, past-started, past-newly, closed-append}
use Rattle.device.proofs.Laws.{queue-radio, queue-reported, queue-dropped, queue-more, length-queue, newly-more, newly-self}
use Rattle.device.proofs.Laws.{newly-reported, newly-dropped, reported_of, all-reported, none-reported, dones-append, dones-cancelled, no-err}

-- ---- the tally of a state

-- the open TX of a state
abbrev pub open_of : State → List Entry
open_of s = at_radio (held s.air.radio) ++ in_queue (tags_of s.air.waiting)

-- the tally that belongs to a state, where c are the closed TX; with no session the ticks are 0 and nothing is pending
abbrev pub tally_of : List Closed → State → Tally
tally_of c s =
    tally s.link.run s.link.session (cond s.link.session s.link.ticks 0) (s.link.session && stalled s.air) (map closed c ++ open_of s)

-- the tally after an answer, by the messages written
abbrev pub tally_out : Event → Out → Tally → Tally
tally_out e o t = if_taken o.number (after_taken e (map seen o.written) o.order t) t

-- ---- the states that can be reached

-- While an orphan is on air no TX is open: its session's end left the device UNCONFIGURED, and a SET_CONFIG waits for it.
pub data Shape : Radio → List Tx → Option Setting → Bool → Option Config → Type 0 where
  is_free : {v : Bool} {k : Option Config} → Shape free [] none v k
  is-listening : {t : ℕ} {ws : List Tx} {k : Option Config} → Shape (listening t) ws none true k
  is-on_air : {t : ℕ} {ws : List Tx} {p : Option Setting} {k : Option Config} → Shape (on_air t) ws p true k
  is-orphan : {p : Option Setting} → Shape orphan [] p true none
  is-alone : Shape orphan [] none false none
  is-configuring : {c : Setting} {v : Bool} {k : Option Config} → Shape (configuring c) [] none v k

abbrev pub Shaped : State → Type 0
Shaped s = Shape s.air.radio s.air.waiting s.air.pending s.link.session s.config

-- with a free radio none waits
pub none-waits : {r : Radio} {ws : List Tx} {p : Option Setting} {v : Bool} {k : Option Config} → Shape r ws p v k → r ≡ free → ws ≡ []
none-waits is_free e = refl
none-waits is-listening e = cc
none-waits is-on_air e = cc
none-waits is-orphan e = refl
none-waits is-alone e = refl
none-waits is-configuring e = refl

-- ---- what one event does

-- 1 for a busy, sent or fault that is taken
abbrev pub passed : Event → ℕ → ℕ
passed e n = cond (outcome? e) (if_taken n 1 0) 0

one : (v : Bool) → cond v 1 0 ≤ 1
one true = le_refl 1
one false = zero-le

pub record Keeps (c : List Closed) (s : State) (e : Event) (o : Out) : Type 0 where
  pub more : List Closed
  pub agrees : tally_out e o (tally_of c s) ≡ tally_of (c ++ more) o.next
  pub shape : Shaped o.next
  pub writes : dones (map seen o.written) ≡ reported_of more
  pub reports : newly_reported (map closed c ++ open_of s) (map closed (c ++ more) ++ open_of o.next) ≡ reported_of more
  pub grows : open# s.air ≤ length more + open# o.next.air
  pub pace : 0 < open# o.next.air → passed e o.number ≤ length more

keeps-by : {c : List Closed} {s : State} {e : Event} {o : Out} (m : List Closed) → tally_out e o (tally_of c s) ≡ tally_of (c ++ m) o.next → Shaped o.next
    → dones (map seen o.written) ≡ reported_of m
    → newly_reported (map closed c ++ open_of s) (map closed (c ++ m) ++ open_of o.next) ≡ reported_of m
    → open# s.air ≤ length m + open# o.next.air → (0 < open# o.next.air → passed e o.number ≤ length m) → Keeps c s e o
keeps-by m a h w n g p = record { more = m; agrees = a; shape = h; writes = w; reports = n; grows = g; pace = p }

pub length-open : (s : State) → length (open_of s) ≡ open# s.air
length-open s = simp (length-append, length-map)

-- an event after which the same TX are open, in the same places
same : (c : List Closed) (s : State) (e : Event) (o : Out) → tally_out e o (tally_of c s) ≡ tally_of c o.next → open_of o.next ≡ open_of s → Shaped o.next
    → dones (map seen o.written) ≡ [] → (0 < open# o.next.air → passed e o.number ≡ 0) → Keeps c s e o
same c s e o h k q d z =
    keeps-by [] (rw append-nil h) q d (rw (append-nil, k, past-newly, newly-self))
    (omega (arith, length-open s, length-open o.next, ap length k)) (λ y. omega (arith, z y))

-- ---- a TX that starts is with the radio

begun-held : (v : Bool) (t : ℕ) → held (begun {C = Setting} v t) ≡ t ∷ []
begun-held true t = refl
begun-held false t = refl

pub begun-runs : (v : Bool) (t : ℕ) → runs? (begun {C = Setting} v t) ≡ false
begun-runs true t = refl
begun-runs false t = refl

begun-open : (v : Bool) (t : ℕ) (ts : List ℕ) → length (held (begun {C = Setting} v t) ++ ts) ≡ suc (length ts)
begun-open true t ts = refl
begun-open false t ts = refl

begun-shape : (v : Bool) (t : ℕ) {ws : List Tx} {k : Option Config} → Shape (begun v t) ws none true k
begun-shape true t = is-listening
begun-shape false t = is-on_air

-- receive or standby: to the tally it makes no difference
idle-ordered : (v : Bool) (t : Tally) → after_order (idle v) t ≡ t
unfolding idle
idle-ordered true t = refl
idle-ordered false t = refl

idle-settles : (v : Bool) (t : Tally) → unless_configure (idle v) t ≡ nothing_pending t
unfolding idle
idle-settles true t = refl
idle-settles false t = refl

-- nor does such an order that is given in one case only
if-ordered : (v : Bool) (o : Order) (t : Tally) → after_order o t ≡ t → after_order (cond v o nothing) t ≡ t
if-ordered true o t e = e
if-ordered false o t e = refl

ruleset laws = (
  closed-append,
  append_assoc,
  past-radio,
  past-reported,
  past-dropped,
  past-started,
  past-newly,
  queue-radio,
  queue-reported,
  queue-dropped,
  queue-more,
  newly-more,
  newly-self,
  newly-reported,
  newly-dropped,
  all-reported,
  none-reported,
  dones-cancelled,
  no-err,
  and-false,
  begun-held,
  begun-runs,
  idle-ordered,
  idle-settles,
)

-- ---- each event

module _ (b : Board) (c : List Closed) where
  no-outcome : (e : Event) (n : ℕ) → passed e (suc n) ≡ 0
  no-outcome (byte m) n = refl
  no-outcome tick n = refl
  no-outcome clear n = refl
  no-outcome busy n = refl
  no-outcome (sent a) n = refl
  no-outcome configured n = refl
  no-outcome fault n = refl
  no-outcome (packet p) n = refl
  no-outcome request n = refl
  no-outcome disconnect n = refl

  refusal : (s : State) (e : Event) (n : ℕ) → Shaped s → Keeps c s e (refused (suc n) s)
  refusal s e n q = same c s e (refused (suc n) s) refl refl q refl (λ y. no-outcome e n)

  module _ (n : ℕ) (rs : List ℕ) (i : Inbox) where
    abbrev Keep : Event → Radio → List Tx → Option Setting → Bool → Option Config → Type 0
    Keep e r ws p v k = Keeps c (state k (link v n rs) (air r ws p) i) e (on_event b e (state k (link v n rs) (air r ws p) i))

    kept-clear : {r : Radio} {ws : List Tx} {p : Option Setting} {v : Bool} {k : Option Config} → Shape r ws p v k → Keep clear r ws p v k
    kept-clear is_free = refusal _ clear 2 is_free
    kept-clear is-listening = same c _ clear _ refl refl is-on_air refl (λ y. refl)
    kept-clear is-on_air = refusal _ clear 2 is-on_air
    kept-clear is-orphan = refusal _ clear 2 is-orphan
    kept-clear is-alone = refusal _ clear 2 is-alone
    kept-clear is-configuring = refusal _ clear 2 is-configuring

    -- Busy, sent and fault do the same to the tally: the TX with the radio is reported, and then the order counts. A fault also settles what is pending:
    -- nothing is, or the order is to configure.
    abbrev ended : Tally → Tally
    ended t = with_txs (map radio_reported t.txs) t

    abbrev Ends : Event → Option Setting → State → Type 0
    Ends e none s = (fs : List Frame) (o : Order) → after_taken e fs o (tally_of c s) ≡ after_order o (ended (tally_of c s))
    Ends e (some d) s = (fs : List Frame) (g : Config) (l : Bool)
        → after_taken e fs (configure g l) (tally_of c s) ≡ after_order (configure g l) (ended (tally_of c s))

    -- the TX with the radio, listening or on air, has the tag t
    module _ (e : Event) (ms : List Message) (v : Bool) (t : ℕ) (k : Option Config) (Wrote-one : dones (map seen ms) ≡ t ∷ []) where
      abbrev was : Option Setting → List Tx → State
      was p ws = state k (link true n rs) (air (begun v t) ws p) i

      ended-next : (p : Option Setting) (ws : List Tx) → Ends e p (was p ws) → Keeps c (was p ws) e (taken (next p ws ms (was p ws)))
      ended-next none [] h =
          keeps-by (was_reported t ∷ []) (h _ _ ∙ simp laws) is_free Wrote-one (simp laws) (omega (arith, begun-open v t [])) (λ y. one (outcome? e))
      ended-next none (w ∷ ws) h =
          keeps-by (was_reported t ∷ []) (h _ _ ∙ simp laws) (begun-shape (listens k w.flags) w.tag) Wrote-one
          (simp laws (ap (λ ts. t ∷ ts) (newly-self (in_queue (tags_of ws)))))
          (omega (arith, begun-open v t (w.tag ∷ tags_of ws), begun-open (listens k w.flags) w.tag (tags_of ws))) (λ y. one (outcome? e))
      ended-next (some d) ws h =
          keeps-by (was_reported t ∷ map was_reported (tags_of ws)) (h _ _ _ ∙ simp laws) is-configuring (rw (dones-append, Wrote-one) (simp laws)) (simp laws)
          (omega (arith, begun-open v t (tags_of ws), length-map (tags_of ws) was_reported)) (λ y. omega (arith, one (outcome? e)))

    -- no TX is with the radio, and none waits
    module _ (e : Event) (ms : List Message) (r : Radio) (v : Bool) (k : Option Config) (Wrote-none : dones (map seen ms) ≡ []) (empty : held r ≡ []) where
      abbrev idles : Option Setting → State
      idles p = state k (link v n rs) (air r [] p) i

      idle-next : (p : Option Setting) → Ends e p (idles p) → runs? r ≡ false → v ≡ true → Keeps c (idles p) e (taken (next p [] ms (idles p)))
      idle-next none h q y = same c _ e _ (h _ _ ∙ rw (empty, q, and-false v) (simp laws)) (rw empty) is_free Wrote-none (λ z. omega arith)
      idle-next (some d) h q y = same c _ e _ (h _ _ _ ∙ rw (empty, y) (simp laws)) (rw empty) is-configuring (rw (append-nil, Wrote-none)) (λ z. omega arith)

    -- where nothing is pending, settling changes nothing
    settles : (fs : List Frame) (o : Order) (s : State) → (tally_of c s).pending ≡ false
        → after_taken fault fs o (tally_of c s) ≡ after_order o (ended (tally_of c s))
    settles fs nothing s h = rw h
    settles fs standby s h = rw h
    settles fs (configure g l) s h = refl
    settles fs (transmit bs l) s h = rw h
    settles fs receive s h = rw h

    kept-busy : {r : Radio} {ws : List Tx} {p : Option Setting} {v : Bool} {k : Option Config} → Shape r ws p v k → Keep busy r ws p v k
    kept-busy is_free = refusal _ busy 2 is_free
    kept-busy (is-listening {t} {ws} {k}) = ended-next busy _ true t k refl none ws (λ fs o. refl)
    kept-busy is-on_air = refusal _ busy 2 is-on_air
    kept-busy is-orphan = refusal _ busy 2 is-orphan
    kept-busy is-alone = refusal _ busy 2 is-alone
    kept-busy is-configuring = refusal _ busy 2 is-configuring

    kept-sent : (a : ℕ) {r : Radio} {ws : List Tx} {p : Option Setting} {v : Bool} {k : Option Config} → Shape r ws p v k → Keep (sent a) r ws p v k
    kept-sent a is_free = refusal _ (sent a) 2 is_free
    kept-sent a is-listening = refusal _ (sent a) 2 is-listening
    kept-sent a (is-on_air {t} {ws} {p = none} {k = k}) = ended-next (sent a) _ false t k refl none ws (λ fs o. refl)
    kept-sent a (is-on_air {t} {ws} {p = some d} {k = k}) = ended-next (sent a) (tx_done TRANSMITTED a t ∷ []) false t k refl (some d) ws (λ fs g l. refl)
    kept-sent a (is-orphan {p = none}) = idle-next (sent a) [] orphan true none refl refl none (λ fs o. refl) refl refl
    kept-sent a (is-orphan {p = some d}) = idle-next (sent a) [] orphan true none refl refl (some d) (λ fs g l. refl) refl refl
    kept-sent a is-alone = same c _ (sent a) _ (simp laws) refl is_free refl (λ z. omega arith)
    kept-sent a is-configuring = refusal _ (sent a) 2 is-configuring

    kept-configured : {r : Radio} {ws : List Tx} {p : Option Setting} {v : Bool} {k : Option Config} → Shape r ws p v k → Keep configured r ws p v k
    kept-configured is_free = refusal _ configured 2 is_free
    kept-configured is-listening = refusal _ configured 2 is-listening
    kept-configured is-on_air = refusal _ configured 2 is-on_air
    kept-configured is-orphan = refusal _ configured 2 is-orphan
    kept-configured is-alone = refusal _ configured 2 is-alone
    kept-configured (is-configuring {v = true}) =
        same c _ configured _ (ap nothing_pending (if-ordered i.receiving receive _ refl)) refl is_free refl (λ z. omega arith)
    kept-configured (is-configuring {v = false}) = same c _ configured _ refl refl is_free refl (λ z. omega arith)

    kept-fault : {r : Radio} {ws : List Tx} {p : Option Setting} {v : Bool} {k : Option Config} → Shape r ws p v k → Keep fault r ws p v k
    kept-fault (is_free {v = true}) = same c _ fault _ (simp laws) refl is_free refl (λ z. omega arith)
    kept-fault (is_free {v = false}) = same c _ fault _ (simp laws) refl is_free refl (λ z. omega arith)
    kept-fault (is-listening {t} {ws} {k}) =
        ended-next fault _ true t k refl none ws (λ fs o. settles fs o (state k (link true n rs) (air (listening t) ws none) i) refl)
    kept-fault (is-on_air {t} {ws} {p = none} {k = k}) =
        ended-next fault _ false t k refl none ws (λ fs o. settles fs o (state k (link true n rs) (air (on_air t) ws none) i) refl)
    kept-fault (is-on_air {t} {ws} {p = some d} {k = k}) =
        ended-next fault (err ERADIO 0 ∷ tx_done CANCELLED 0 t ∷ []) false t k refl (some d) ws (λ fs g l. refl)
    kept-fault (is-orphan {p = none}) =
        idle-next fault _ orphan true none refl refl none (λ fs o. settles fs o (state none (link true n rs) (air orphan [] none) i) refl) refl refl
    kept-fault (is-orphan {p = some d}) = idle-next fault (err ERADIO 0 ∷ []) orphan true none refl refl (some d) (λ fs g l. refl) refl refl
    kept-fault is-alone = same c _ fault _ (simp laws) refl is_free refl (λ z. omega arith)
    kept-fault (is-configuring {v = true}) = same c _ fault _ (simp laws) refl is_free refl (λ z. omega arith)
    kept-fault (is-configuring {v = false}) = same c _ fault _ (simp laws) refl is_free refl (λ z. omega arith)

    -- a session's end drops what is open
    module _ (e : Event) (no : outcome? e ≡ false) where
      abbrev Drops : Radio → List Tx → Option Setting → Option Config → Type 0
      Drops r ws p k =
          ((fs : List Frame) (o : Order) → ((t : Tally) → after_order o t ≡ t)
          → after_taken e fs o (tally_of c (state k (link true n rs) (air r ws p) i)) ≡ session_ended (tally_of c (state k (link true n rs) (air r ws p) i)))
          → Keeps c (state k (link true n rs) (air r ws p) i) e (taken (end_session r))

      kept-end : {r : Radio} {ws : List Tx} {p : Option Setting} {k : Option Config} → Shape r ws p true k → Drops r ws p k
      kept-end is_free h = same c _ e _ (h _ _ (λ t. refl) ∙ simp laws) refl is_free refl (λ z. rw no)
      kept-end (is-listening {t} {ws}) h =
          keeps-by (was_dropped t ∷ map was_dropped (tags_of ws)) (h _ _ (λ t. refl) ∙ simp laws) is_free
          (simp laws) (simp laws) (omega (arith, length-map (tags_of ws) was_dropped)) (λ z. omega arith)
      kept-end (is-on_air {t} {ws}) h =
          keeps-by (was_dropped t ∷ map was_dropped (tags_of ws)) (h _ _ (λ t. refl) ∙ simp laws) is-alone
          (simp laws) (simp laws) (omega (arith, length-map (tags_of ws) was_dropped)) (λ z. omega arith)
      kept-end is-orphan h = same c _ e _ (h _ _ (λ t. refl) ∙ simp laws) refl is-alone refl (λ z. rw no)
      kept-end is-configuring h = same c _ e _ (h _ _ (λ t. refl) ∙ simp laws) refl is-configuring refl (λ z. rw no)

    kept-disconnect : {r : Radio} {ws : List Tx} {p : Option Setting} (v : Bool) {k : Option Config} → Shape r ws p v k → Keep disconnect r ws p v k
    kept-disconnect true q = kept-end disconnect refl q (λ fs o h. ap session_ended (h _))
    kept-disconnect false is_free = same c _ disconnect _ (simp laws) refl is_free refl (λ z. refl)
    kept-disconnect false is-alone = same c _ disconnect _ (simp laws) refl is-alone refl (λ z. refl)
    kept-disconnect false is-configuring = same c _ disconnect _ (simp laws) refl is-configuring refl (λ z. refl)

    -- a tick that counts; `u` says that it makes 1000
    ticks : (u : Bool) → eqb (suc n) ticks_max ≡ u → {r : Radio} {ws : List Tx} {k : Option Config}
        → Shape r ws none true k → runs? r ≡ false → Keep tick r ws none true k
    ticks true e q j = rw (j, e) (kept-end tick refl q (λ fs o h. ap (after_time tick) (h _) ∙ rw (j, e)))
    ticks false e q j = rw (j, e) (same c _ tick _ (rw (j, e)) refl q refl (λ z. refl))

    kept-tick : {r : Radio} {ws : List Tx} {p : Option Setting} {v : Bool} {k : Option Config} → Shape r ws p v k → Keep tick r ws p v k
    kept-tick (is_free {v = true}) = ticks _ refl is_free refl
    kept-tick (is_free {v = false}) = same c _ tick _ refl refl is_free refl (λ z. refl)
    kept-tick is-listening = ticks _ refl is-listening refl
    kept-tick (is-on_air {p = none}) = ticks _ refl is-on_air refl
    kept-tick (is-on_air {p = some d}) = same c _ tick _ refl refl is-on_air refl (λ z. refl)
    kept-tick (is-orphan {p = none}) = ticks _ refl is-orphan refl
    kept-tick (is-orphan {p = some d}) = same c _ tick _ refl refl is-orphan refl (λ z. refl)
    kept-tick is-alone = same c _ tick _ refl refl is-alone refl (λ z. refl)
    kept-tick (is-configuring {v = true}) = same c _ tick _ refl refl is-configuring refl (λ z. refl)
    kept-tick (is-configuring {v = false}) = same c _ tick _ refl refl is-configuring refl (λ z. refl)

  kept-packet : (p : Packet) (u : Bool) (s : State) → Shaped s → Keeps c s (packet p) (on_packet u p s)
  kept-packet p true s q = same c s (packet p) _ refl refl q refl (λ z. refl)
  kept-packet p false s q = refusal s (packet p) 2 q

  kept-request : (ps : List Packet) (s : State) → Shaped s → Keeps c s request (taken (on_request ps s))
  kept-request [] s q = same c s request _ refl refl q refl (λ z. refl)
  kept-request (p ∷ ps) s q = same c s request _ refl refl q refl (λ z. refl)

  -- ---- a byte

  -- the run r ∷ rs ends, and is received as f
  module _ (n r : ℕ) (rs : List ℕ) (i : Inbox) where
    abbrev old : Radio → List Tx → Bool → Option Config → State
    old x ws v k = state k (link v n (r ∷ rs)) (air x ws none) i

    abbrev new : Radio → List Tx → Option Config → Inbox → State
    new x ws k j = state k (link true 0 []) (air x ws none) j

    abbrev Framed : Received → State → Out → Type 0
    Framed f s o = brings (r ∷ rs) ≡ f → Keeps c s (byte 0) o

    -- a session is opened
    awake : {x : Radio} {ws : List Tx} {v : Bool} {k : Option Config} → Shape x ws none v k → Shape x ws none true k
    awake is_free = is_free
    awake is-listening = is-listening
    awake is-on_air = is-on_air
    awake is-orphan = is-orphan
    awake is-alone = is-orphan
    awake is-configuring = is-configuring

    -- an answer of one message that moves no TX
    writes : (f : Received) (m : Message) (o : Order) (j : Inbox) {x : Radio} {ws : List Tx} {v : Bool} {k : Option Config}
        → Shape x ws none v k → runs? x ≡ false
        → ((t : Tally) → after_order o (noted f (seen m ∷ []) t) ≡ t) → dones (seen m ∷ []) ≡ []
        → Framed f (old x ws v k) (taken (writes_first m o (new x ws k j)))
    writes f m o j {v = v} q h a w e = same c _ (byte 0) _ (rw (e, a, h, and-false v)) refl (awake q) w (λ z. refl)

    -- an ERR moves none
    err-noted : (kind t code u : ℕ) (p : List ℕ) (y : Tally) → noted (command kind t p) (seen (err code u) ∷ []) y ≡ y
    err-noted kind t code u p y = go (eqb kind TX) (eqb kind SET_CONFIG)
      where
        go : (v w : Bool) → cond v y (cond w y y) ≡ y
        go true w = refl
        go false true = refl
        go false false = refl

    -- no TX is taken where the device is UNCONFIGURED
    never : (v : Bool) (a d : ℕ) → cond v (some a) (some d) ≡ none → ⊥
    never true a d e = absurd (let z : ◌≡◌ {A = ℕ} 0 1 = cc in omega arith)
    never false a d e = absurd (let z : ◌≡◌ {A = ℕ} 0 1 = cc in omega arith)

    no-tx : (s : State) (kind : ℕ) (p : List ℕ) → s.config ≡ none → eqb kind TX ≡ true → error_of b s kind p ≡ none → ⊥
    unfolding error_of
    no-tx s kind p h e o = never (not (is_command kind)) EUNKNOWN_CMD ENOTCONFIGURED (rw (h, e) at o)

    was-tx : (kind t : ℕ) (p : List ℕ) → eqb kind TX ≡ true → {x : Radio} {ws : List Tx} {v : Bool} {k : Option Config} → Shape x ws none v k → runs? x ≡ false
        → error_of b (new x ws k i) kind p ≡ none → Framed (command kind t p) (old x ws v k) (taken (on_tx (tx_of t p) x (new x ws k i)))
    was-tx kind t p y (is_free {k = k}) h o e =
        keeps-by [] (rw (e, y) (simp laws)) (begun-shape (listens k (get flags p)) t) refl (simp laws) (omega arith) (λ z. omega arith)
    was-tx kind t p y (is-listening {t = u} {ws = ws}) h o e =
        keeps-by [] (rw (e, y) (simp laws)) is-listening refl (simp laws) (omega (arith, length-queue ws (tx_of t p))) (λ z. omega arith)
    was-tx kind t p y (is-on_air {t = u} {ws = ws}) h o e =
        keeps-by [] (rw (e, y) (simp laws)) is-on_air refl (simp laws) (omega (arith, length-queue ws (tx_of t p))) (λ z. omega arith)
    was-tx kind t p y is-orphan h o e = absurd (no-tx _ kind p refl y o)
    was-tx kind t p y is-alone h o e = absurd (no-tx _ kind p refl y o)
    was-tx kind t p y is-configuring h o e = absurd (true≢false h)

    was-set : (kind t : ℕ) (p : List ℕ) → eqb kind TX ≡ false → eqb kind SET_CONFIG ≡ true
        → {x : Radio} {ws : List Tx} {v : Bool} {k : Option Config} → Shape x ws none v k
        → runs? x ≡ false → Framed (command kind t p) (old x ws v k) (taken (on_set (setting_of t p) x (new x ws k (ring_emptied i))))
    was-set kind t p y z is_free h e = same c _ (byte 0) _ (rw (e, y, z) (simp laws)) refl is-configuring refl (λ u. refl)
    was-set kind t p y z (is-listening {t = u} {ws = ws}) h e =
        keeps-by (was_reported u ∷ map was_reported (tags_of ws)) (rw (e, y, z, no-err (tags_of ws)) (simp laws)) is-configuring
        (simp laws) (simp laws) (omega (arith, length-map (tags_of ws) was_reported)) (λ q. omega arith)
    was-set kind t p y z is-on_air h e = same c _ (byte 0) _ (rw (e, y, z)) refl is-on_air refl (λ u. refl)
    was-set kind t p y z is-orphan h e = same c _ (byte 0) _ (rw (e, y, z)) refl is-orphan refl (λ u. refl)
    was-set kind t p y z is-alone h e = same c _ (byte 0) _ (rw (e, y, z)) refl is-orphan refl (λ u. refl)
    was-set kind t p y z is-configuring h e = absurd (true≢false h)

    -- the other commands: one message, and an order that the tally does not see
    module _ (kind t : ℕ) (p : List ℕ) (y : eqb kind TX ≡ false) (z : eqb kind SET_CONFIG ≡ false)
        {x : Radio} {ws : List Tx} {v : Bool} {k : Option Config} (q : Shape x ws none v k) (h : runs? x ≡ false) where
      was-turned : (on : Bool) → Framed (command kind t p) (old x ws v k) (taken (turned on t (new x ws k i)))
      was-turned on = writes _ _ _ _ q h (λ u. rw (y, z) (if-ordered (free? x && changed on i.receiving) (idle on) u (idle-ordered on u))) refl

      was-asked : (m : Message) → dones (seen m ∷ []) ≡ [] → Framed (command kind t p) (old x ws v k) (taken (writes_first m nothing (new x ws k i)))
      was-asked m w = writes _ m nothing i q h (λ u. rw (y, z)) w

      others : (u₁ u₂ u₃ : Bool) → Framed (command kind t p) (old x ws v k)
          (taken (cond u₁ (turned true t (new x ws k i)) (cond u₂ (turned false t (new x ws k i))
          (cond u₃ (writes_first (ok_info b t) nothing (new x ws k i)) (writes_first (ok t) nothing (new x ws k i))))))
      others true u₂ u₃ = was-turned true
      others false true u₃ = was-turned false
      others false false true = was-asked (ok_info b t) refl
      others false false false = was-asked (ok t) refl

    carried : (kind t : ℕ) (p : List ℕ) (u w : Bool) → eqb kind TX ≡ u → eqb kind SET_CONFIG ≡ w
        → {x : Radio} {ws : List Tx} {v : Bool} {k : Option Config} → Shape x ws none v k → runs? x ≡ false → error_of b (new x ws k i) kind p ≡ none
        → Framed (command kind t p) (old x ws v k) (taken (on_command b kind t p (new x ws k i)))
    carried kind t p true w y z q h o = rw y (was-tx kind t p y q h o)
    carried kind t p false true y z q h o = rw (y, z) (was-set kind t p y z q h)
    carried kind t p false false y z q h o = rw (y, z) (others kind t p y z q h (eqb kind RX_START) (eqb kind RX_STOP) (eqb kind GET_INFO))

    answered : (kind t : ℕ) (p : List ℕ) (o : Option ℕ) {x : Radio} {ws : List Tx} {v : Bool} {k : Option Config} → Shape x ws none v k → runs? x ≡ false
        → error_of b (new x ws k i) kind p ≡ o → Framed (command kind t p) (old x ws v k) (taken (unless o b kind t p (new x ws k i)))
    answered kind t p (some code) q h e = writes _ _ nothing i q h (err-noted kind t code t p) refl
    answered kind t p none q h e = carried kind t p _ _ refl refl q h e

    kept-received : (f : Received) {x : Radio} {ws : List Tx} {v : Bool} {k : Option Config} → Shape x ws none v k → runs? x ≡ false
        → Framed f (old x ws v k) (taken (on_received b f (new x ws k i)))
    kept-received damaged q h = writes damaged _ nothing i q h (λ t. refl) refl
    kept-received (command kind t p) q h = answered kind t p _ q h refl

  kept-taken : (m n : ℕ) (rs : List ℕ) (i : Inbox) {x : Radio} {ws : List Tx} {v : Bool} {k : Option Config} → Shape x ws none v k → runs? x ≡ false
      → Keeps c (state k (link v n rs) (air x ws none) i) (byte m) (taken (on_byte b m (state k (link v n rs) (air x ws none) i)))
  kept-taken zero n [] i q h = same c _ (byte 0) _ refl refl q refl (λ z. refl)
  kept-taken zero n (r ∷ rs) i q h = kept-received n r rs i _ q h (sym (run-brings (r ∷ rs)))
  kept-taken (suc m) n rs i q h = same c _ (byte (suc m)) _ refl refl q refl (λ z. refl)

  kept_byte : (m n : ℕ) (rs : List ℕ) (i : Inbox) {x : Radio} {ws : List Tx} {p : Option Setting} {v : Bool} {k : Option Config} → Shape x ws p v k
      → Keep n rs i (byte m) x ws p v k
  kept_byte m n rs i is_free = kept-taken m n rs i is_free refl
  kept_byte m n rs i is-listening = kept-taken m n rs i is-listening refl
  kept_byte m n rs i (is-on_air {p = none}) = kept-taken m n rs i is-on_air refl
  kept_byte m n rs i (is-on_air {p = some d}) = refusal _ (byte m) 1 is-on_air
  kept_byte m n rs i (is-orphan {p = none}) = kept-taken m n rs i is-orphan refl
  kept_byte m n rs i (is-orphan {p = some d}) = refusal _ (byte m) 1 is-orphan
  kept_byte m n rs i is-alone = kept-taken m n rs i is-alone refl
  kept_byte m n rs i is-configuring = refusal _ (byte m) 1 is-configuring

  kept-event : (s : State) (e : Event) → Shaped s → Keeps c s e (on_event b e s)
  kept-event s (byte m) q = kept_byte m s.link.ticks s.link.run s.inbox q
  kept-event s tick q = kept-tick s.link.ticks s.link.run s.inbox q
  kept-event s clear q = kept-clear s.link.ticks s.link.run s.inbox q
  kept-event s busy q = kept-busy s.link.ticks s.link.run s.inbox q
  kept-event s (sent a) q = kept-sent s.link.ticks s.link.run s.inbox a q
  kept-event s configured q = kept-configured s.link.ticks s.link.run s.inbox q
  kept-event s fault q = kept-fault s.link.ticks s.link.run s.inbox q
  kept-event s (packet p) q = kept-packet p (s.inbox.receiving && free? s.air.radio) s q
  kept-event s request q = kept-request s.inbox.ring s q
  kept-event s disconnect q = kept-disconnect s.link.ticks s.link.run s.inbox s.link.session q

  kept-room : (v : Bool) (s : State) (e : Event) → Shaped s → Keeps c s e (unless_room v b e s)
  kept-room true s e q = refusal s e 0 q
  kept-room false s e q = kept-event s e q

-- each event keeps it
pub keeps : (b : Board) (c : List Closed) (s : State) (i : Input) → Shaped s → Keeps c s i.event (step b s i)
unfolding step
keeps b c s i q = kept-room b c (ltb i.room room_min) s i.event q
