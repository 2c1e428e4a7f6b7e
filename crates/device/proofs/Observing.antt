-- What joins the observer to the device's state, and that each event keeps it, writes the messages that are due and gives the order that is due.
-- The idea: what the observer knows is a function of the state, `known_of`, but for the packets lost, of which the state counts 65,535 at most. An event's rule
-- and what is due at it then compute to the same in every case of the radio. The errors of a command are in Errors.antt.
-- Assumes nothing.
use mathlib.Core.Path.{◌≡◌, refl, sym, ap, ◌∙◌}
use mathlib.Core.Bool.{Bool, true, false, cond, ◌&&◌, not, and-false, true≢false}
use mathlib.Core.List.{List, [], ◌∷◌, ◌++◌, map, append-nil}
use mathlib.Core.Option.{Option, none, some}
use Prim.Native.Nat.{ℕ, zero, suc, min}
use native.Mathlib.Omega.{arith}
use lib.Dec.{ltb, eqb}
use lib.ListN.{length}
use Rattle.scalar.specs.Scalars.{get}
use Rattle.kind.specs.Kinds.{SET_CONFIG, TX, RX_START, RX_STOP, EFRAME, CANCELLED}
use Rattle.command.specs.Commands.{flags, packet_of}
use Rattle.board.specs.Board.{Board, ring_max}
use Rattle.modulation.specs.declared.Modulation.{Modulation}
use Rattle.modulation.specs.declared.Modulation.TheVariants as M
use Rattle.device.specs.State.{Config, Setting, Tx, Radio, free, listening, on_air, orphan, configuring, Packet, Air, Inbox}
use Rattle.device.specs.State.{State, link, air, inbox, state, with_link, with_inbox, tags_of, free?, runs?, stalled}
use Rattle.device.specs.State.{Event, byte, tick, clear, busy, sent, configured, fault, packet, request}
use Rattle.device.specs.State.{disconnect, Input, Order, nothing, standby, transmit, receive}
use Rattle.device.specs.Messages.{Frame, Message, yes, ok, ok_info, err, tx_done, rx, cancelled, seen}
use Rattle.device.specs.Frames.{Received, damaged, command, received, error_of, setting_of, tx_of}
use Rattle.device.specs.Events.{Out, taken, refused, listens, listens_in, begun, idle, next, writes_first, turned, on_tx, ring_emptied, on_set}
use Rattle.device.specs.Events.{unless, on_command, on_received, on_byte, unless_stalled, on_clear, on_busy, on_sent, on_configured, on_fault, on_packet}
use Rattle.device.specs.Events.{on_request, end_session, on_tick, on_disconnect, on_event, unless_room, step, room_min, ticks_max}
use Rattle.device.specs.Reading.{brings}
use Rattle.device.specs.Tally.{Tally, if_taken}
use Rattle.device.specs.Observer.{Observer, observer, radio_ends, order_noted, starts_as, session_over, noted}
use Rattle.device.specs.Due.{command_error, opened, cancels, cancels_after, lora?, listens_first, rests, end_order, if_free, at_work, messages_due, order_due}
use Rattle.device.specs.Demands.{Closed}
use Rattle.device.proofs.Laws.{run-brings, no-err}
use Rattle.device.proofs.Errors.{same-open, same-error, no-command}
use Rattle.device.proofs.Keeping.{tally_of}

-- ---- what joins the two

-- what the observer knows of a state, where n packets were lost
abbrev pub known_of : ℕ → State → Observer
known_of n s = observer s.config s.air (inbox s.inbox.receiving s.inbox.ring n)

-- the observer after an answer, by the messages written
abbrev pub known_out : Event → Out → Tally → Observer → Observer
known_out e o t k = if_taken o.number (noted e t (map seen o.written) o.order k) k

-- what holds of an answer
pub record MatchesDue (b : Board) (c : List Closed) (n : ℕ) (s : State) (e : Event) (o : Out) : Type 0 where
  pub lost : ℕ
  pub knows : known_out e o (tally_of c s) (known_of n s) ≡ known_of lost o.next
  pub drops : o.next.inbox.drops ≡ min lost 65535
  pub written : o.written ≡ messages_due b o.number e (tally_of c s) (known_of n s)
  pub order : o.order ≡ order_due b o.number e (tally_of c s) (known_of n s)

-- ---- the same said twice

same-begun : (v : Bool) (t : ℕ) → begun {C = Setting} v t ≡ starts_as v t
same-begun true t = refl
same-begun false t = refl

same-listens : (c : Option Config) (f : ℕ) → listens c f ≡ listens_first c f
unfolding listens
same-listens none f = refl
same-listens (some c) f = go c.modulation
  where
    go : (m : Modulation) → listens_in m f ≡ (lora? m && eqb f 0)
    go (M.Lora m) = refl
    go (M.Fsk m) = refl

same-idle : (on : Bool) → idle on ≡ rests on
unfolding idle
same-idle true = refl
same-idle false = refl

rests-noted : (on : Bool) (k : Observer) → order_noted (rests on) k ≡ k
rests-noted true k = refl
rests-noted false k = refl

same-cancels : (ws : List Tx) → cancelled (tags_of ws) ≡ cancels ws
same-cancels [] = refl
same-cancels (w ∷ ws) = ap (λ (ms : List Message). tx_done CANCELLED 0 w.tag ∷ ms) (same-cancels ws)

same-yes : (v : Bool) → yes v ≡ cond v 1 0
same-yes true = refl
same-yes false = refl

none-due : (v : Bool) → cond v nothing nothing ≡ nothing
none-due true = refl
none-due false = refl

-- RX_START and RX_STOP
turned-noted : (v on : Bool) (k : Observer) → order_noted (cond v (idle on) nothing) k ≡ k
unfolding idle
turned-noted true true k = refl
turned-noted true false k = refl
turned-noted false on k = refl

started : (r : Radio) (on : Bool) → cond (free? r && not on) (idle true) nothing ≡ cond (at_work r && true) nothing (if_free r (cond on nothing receive))
unfolding idle
started free true = refl
started free false = refl
started (listening t) on = refl
started (on_air t) on = refl
started orphan on = refl
started (configuring c) on = refl

stopped : (r : Radio) (on : Bool) → cond (free? r && on) (idle false) nothing ≡ cond (at_work r && true) nothing (if_free r (cond on standby nothing))
unfolding idle
stopped free true = refl
stopped free false = refl
stopped (listening t) on = refl
stopped (on_air t) on = refl
stopped orphan on = refl
stopped (configuring c) on = refl

module _ (b : Board) (c : List Closed) (l : ℕ) where
  abbrev Matches : State → Event → Out → Type 0
  Matches s e o = MatchesDue b c l s e o

  refusal : (s : State) (e : Event) (n : ℕ) → s.inbox.drops ≡ min l 65535 → Matches s e (refused (suc n) s)
  unfolding messages_due order_due
  refusal s e n d = record { lost = l; knows = refl; drops = d; written = refl; order = refl }

  module _ (k : Option Config) (n : ℕ) (rs : List ℕ) (i : Inbox) (d : i.drops ≡ min l 65535) where
    abbrev has : Bool → Radio → List Tx → Option Setting → State
    has v r ws p = state k (link v n rs) (air r ws p) i

    -- ---- the radio's outcomes

    matches-clear : (v : Bool) (r : Radio) (ws : List Tx) (p : Option Setting) → Matches (has v r ws p) clear (on_clear r (has v r ws p))
    unfolding messages_due order_due
    matches-clear v free ws p = refusal _ clear 2 d
    matches-clear v (listening t) ws p = record { lost = l; knows = refl; drops = d; written = refl; order = refl }
    matches-clear v (on_air t) ws p = refusal _ clear 2 d
    matches-clear v orphan ws p = refusal _ clear 2 d
    matches-clear v (configuring x) ws p = refusal _ clear 2 d

    -- after a TX has ended: ms are its own messages
    record Ends (e : Event) (v : Bool) (r : Radio) (ws : List Tx) (p : Option Setting) (ms : List Message) : Type 0 where
      notes : (fs : List Frame) (o : Order)
          → noted e (tally_of c (has v r ws p)) fs o (known_of l (has v r ws p)) ≡ order_noted o (radio_ends (known_of l (has v r ws p)))
      writes : messages_due b 0 e (tally_of c (has v r ws p)) (known_of l (has v r ws p)) ≡ ms ++ cancels_after p ws
      orders : order_due b 0 e (tally_of c (has v r ws p)) (known_of l (has v r ws p)) ≡ end_order p ws (known_of l (has v r ws p))

    ended : (e : Event) (v : Bool) (r : Radio) (ms : List Message) (ws : List Tx) (p : Option Setting) → Ends e v r ws p ms
        → Matches (has v r ws p) e (taken (next p ws ms (has v r ws p)))
    ended e v r ms [] none h =
        record {
          lost = l;
          knows = h.notes _ _ ∙ rw (same-idle i.receiving, rests-noted);
          drops = d;
          written = sym (h.writes ∙ append-nil ms);
          order = same-idle i.receiving ∙ sym h.orders;
        }
    ended e v r ms (x ∷ xs) none h =
        record {
          lost = l;
          knows = h.notes _ _ ∙ rw same-begun;
          drops = d;
          written = sym (h.writes ∙ append-nil ms);
          order = ap (transmit x.packet) (same-listens k x.flags) ∙ sym h.orders;
        }
    ended e v r ms ws (some x) h =
        record {
          lost = l;
          knows = h.notes _ _;
          drops = d;
          written = ap (λ (ns : List Message). ms ++ ns) (same-cancels ws) ∙ sym h.writes;
          order = sym h.orders;
        }

    matches-busy : (v : Bool) (r : Radio) (ws : List Tx) (p : Option Setting) → Matches (has v r ws p) busy (on_busy r (has v r ws p))
    unfolding messages_due order_due
    matches-busy v free ws p = refusal _ busy 2 d
    matches-busy v (listening t) ws p = ended busy v (listening t) _ ws p (record { notes = λ fs o. refl; writes = refl; orders = refl })
    matches-busy v (on_air t) ws p = refusal _ busy 2 d
    matches-busy v orphan ws p = refusal _ busy 2 d
    matches-busy v (configuring x) ws p = refusal _ busy 2 d

    matches-sent : (a : ℕ) (v : Bool) (r : Radio) (ws : List Tx) (p : Option Setting) → Matches (has v r ws p) (sent a) (on_sent a r (has v r ws p))
    unfolding messages_due order_due
    matches-sent a v free ws p = refusal _ (sent a) 2 d
    matches-sent a v (listening t) ws p = refusal _ (sent a) 2 d
    matches-sent a v (on_air t) ws p = ended (sent a) v (on_air t) _ ws p (record { notes = λ fs o. refl; writes = refl; orders = refl })
    matches-sent a v orphan ws p = ended (sent a) v orphan _ ws p (record { notes = λ fs o. refl; writes = refl; orders = refl })
    matches-sent a v (configuring x) ws p = refusal _ (sent a) 2 d

    matches-configured : (v : Bool) (r : Radio) (ws : List Tx) (p : Option Setting) → Matches (has v r ws p) configured (on_configured r (has v r ws p))
    unfolding messages_due order_due
    matches-configured v free ws p = refusal _ configured 2 d
    matches-configured v (listening t) ws p = refusal _ configured 2 d
    matches-configured v (on_air t) ws p = refusal _ configured 2 d
    matches-configured v orphan ws p = refusal _ configured 2 d
    matches-configured true (configuring x) ws p = record { lost = l; knows = refl; drops = d; written = refl; order = refl }
    matches-configured false (configuring x) ws p = record { lost = l; knows = refl; drops = d; written = refl; order = refl }

    matches-fault : (v : Bool) (r : Radio) (ws : List Tx) (p : Option Setting) → Matches (has v r ws p) fault (taken (on_fault r (has v r ws p)))
    unfolding messages_due order_due
    matches-fault true free ws p = ended fault true free _ ws p (record { notes = λ fs o. refl; writes = refl; orders = refl })
    matches-fault false free ws p = ended fault false free _ ws p (record { notes = λ fs o. refl; writes = refl; orders = refl })
    matches-fault true (listening t) ws p = ended fault true (listening t) _ ws p (record { notes = λ fs o. refl; writes = refl; orders = refl })
    matches-fault false (listening t) ws p = ended fault false (listening t) _ ws p (record { notes = λ fs o. refl; writes = refl; orders = refl })
    matches-fault true (on_air t) ws p = ended fault true (on_air t) _ ws p (record { notes = λ fs o. refl; writes = refl; orders = refl })
    matches-fault false (on_air t) ws p = ended fault false (on_air t) _ ws p (record { notes = λ fs o. refl; writes = refl; orders = refl })
    matches-fault true orphan ws p = ended fault true orphan _ ws p (record { notes = λ fs o. refl; writes = refl; orders = refl })
    matches-fault false orphan ws p = ended fault false orphan _ ws p (record { notes = λ fs o. refl; writes = refl; orders = refl })
    matches-fault true (configuring x) ws p = record { lost = l; knows = refl; drops = d; written = refl; order = refl }
    matches-fault false (configuring x) ws p = record { lost = l; knows = refl; drops = d; written = refl; order = refl }

    -- ---- reception

    -- a packet joins the ring, or the oldest is lost; u says whether there is room
    joins : (x : Packet) (v u : Bool) (ws : List Tx) (p : Option Setting) → ltb (length i.ring) ring_max ≡ u
        → Matches (has v free ws p) (packet x) (on_packet true x (has v free ws p))
    unfolding messages_due order_due
    joins x v true ws p e = record { lost = l; knows = rw e; drops = rw e d; written = refl; order = refl }
    joins x v false ws p e = record { lost = suc l; knows = rw e; drops = rw e (omega arith); written = refl; order = refl }

    matches-packet : (x : Packet) (v : Bool) (r : Radio) (ws : List Tx) (p : Option Setting) (u : Bool) → i.receiving ≡ u
        → Matches (has v r ws p) (packet x) (on_packet (u && free? r) x (has v r ws p))
    matches-packet x v r ws p false e = refusal _ (packet x) 2 d
    matches-packet x v free ws p true e = joins x v _ ws p refl
    matches-packet x v (listening t) ws p true e = refusal _ (packet x) 2 d
    matches-packet x v (on_air t) ws p true e = refusal _ (packet x) 2 d
    matches-packet x v orphan ws p true e = refusal _ (packet x) 2 d
    matches-packet x v (configuring y) ws p true e = refusal _ (packet x) 2 d

    -- ---- time

    -- a session ends
    record Over (e : Event) (r : Radio) (ws : List Tx) (p : Option Setting) : Type 0 where
      notes : (fs : List Frame) (o : Order)
          → noted e (tally_of c (has true r ws p)) fs o (known_of l (has true r ws p)) ≡ session_over (known_of l (has true r ws p))
      writes : messages_due b 0 e (tally_of c (has true r ws p)) (known_of l (has true r ws p)) ≡ []
      orders : order_due b 0 e (tally_of c (has true r ws p)) (known_of l (has true r ws p)) ≡ cond (at_work r) nothing standby

    matches-end : (e : Event) (r : Radio) (ws : List Tx) (p : Option Setting) → Over e r ws p → Matches (has true r ws p) e (taken (end_session r))
    matches-end e free ws p h = record { lost = 0; knows = h.notes _ _; drops = refl; written = sym h.writes; order = sym h.orders }
    matches-end e (listening t) ws p h = record { lost = 0; knows = h.notes _ _; drops = refl; written = sym h.writes; order = sym h.orders }
    matches-end e (on_air t) ws p h = record { lost = 0; knows = h.notes _ _; drops = refl; written = sym h.writes; order = sym h.orders }
    matches-end e orphan ws p h = record { lost = 0; knows = h.notes _ _; drops = refl; written = sym h.writes; order = sym h.orders }
    matches-end e (configuring x) ws p h = record { lost = 0; knows = h.notes _ _; drops = refl; written = sym h.writes; order = sym h.orders }

    over : (r : Radio) (o : Order) → cond (at_work r && true) nothing o ≡ cond (at_work r) nothing o
    over free o = refl
    over (listening t) o = refl
    over (on_air t) o = refl
    over orphan o = refl
    over (configuring x) o = refl

    matches-disconnect : (v : Bool) (r : Radio) (ws : List Tx) (p : Option Setting) → Matches (has v r ws p) disconnect (taken (on_disconnect v (has v r ws p)))
    unfolding messages_due order_due
    matches-disconnect true r ws p = matches-end disconnect r ws p (record { notes = λ fs o. refl; writes = refl; orders = over r standby })
    matches-disconnect false r ws p = record { lost = l; knows = refl; drops = d; written = refl; order = sym (none-due (at_work r && true)) }

    -- a tick, by whether it counts and whether it makes 1000
    matches-tick : (v : Bool) (r : Radio) (ws : List Tx) (p : Option Setting) → Matches (has v r ws p) tick (taken (on_tick (has v r ws p)))
    unfolding messages_due order_due
    matches-tick false r ws p = record { lost = l; knows = refl; drops = d; written = refl; order = sym (none-due (at_work r && true)) }
    matches-tick true r ws p = go (stalled (air r ws p)) refl (eqb (suc n) ticks_max) refl
      where
        go : (u : Bool) → stalled (air r ws p) ≡ u → (w : Bool) → eqb (suc n) ticks_max ≡ w → Matches (has true r ws p) tick (taken (on_tick (has true r ws p)))
        go true e w f = rw e (record { lost = l; knows = rw e; drops = d; written = refl; order = rw e (sym (none-due (at_work r && true))) })
        go false e true f = rw (e, f) (matches-end tick r ws p (record { notes = λ fs o. rw (e, f); writes = refl; orders = rw (e, f) (over r standby) }))
        go false e false f =
            rw (e, f) (record { lost = l; knows = rw (e, f); drops = d; written = refl; order = rw (e, f) (sym (none-due (at_work r && true))) })

  matches-request : (k : Option Config) (n : ℕ) (rs : List ℕ) (on : Bool) (v : Bool) (a : Air) (m : ℕ) → m ≡ min l 65535 → (ps : List Packet)
      → let s = state k (link v n rs) a (inbox on ps m) in Matches s request (taken (on_request ps s))
  unfolding messages_due order_due
  matches-request k n rs on v a m d [] = record { lost = l; knows = refl; drops = d; written = refl; order = sym (none-due (at_work a.radio && true)) }
  matches-request k n rs on v a m d (p ∷ ps) =
      record {
        lost = 0;
        knows = refl;
        drops = refl;
        written = ap (λ (i : ℕ). rx p i ∷ []) d ∙ rw (same-yes p.crc_valid);
        order = sym (none-due (at_work a.radio && true));
      }

  -- ---- a byte

  -- the run x ∷ xs ends, and brings f; no SET_CONFIG waits or runs
  module _ (k : Option Config) (v : Bool) (n x : ℕ) (xs : List ℕ) (i : Inbox) (d : i.drops ≡ min l 65535) where
    abbrev old : Radio → List Tx → Option Setting → State
    old r ws p = state k (link v n (x ∷ xs)) (air r ws p) i

    abbrev woken : Radio → List Tx → Option Setting → State
    woken r ws p = with_link (link true 0 []) (old r ws p)

    abbrev Framed : Received → Radio → List Tx → Option Setting → Out → Type 0
    Framed f r ws p o = brings (x ∷ xs) ≡ f → Matches (old r ws p) (byte 0) o

    matches-damage : (r : Radio) (ws : List Tx) (p : Option Setting) → Framed damaged r ws p (taken (writes_first (err EFRAME 0) nothing (woken r ws p)))
    unfolding messages_due order_due
    matches-damage r ws p e = record { lost = l; knows = rw e; drops = d; written = rw e; order = rw e (sym (none-due (at_work r && true))) }

    matches-wrong : (kind t code : ℕ) (q : List ℕ) (r : Radio) (ws : List Tx) (p : Option Setting) → command_error b k (opened r ws) kind q ≡ some code
        → Framed (command kind t q) r ws p (taken (writes_first (err code t) nothing (woken r ws p)))
    unfolding messages_due order_due
    matches-wrong kind t code q r ws p h e =
        record {
          lost = l;
          knows = rw (e, and-false (eqb kind TX), and-false (eqb kind SET_CONFIG), and-false (eqb kind RX_START), and-false (eqb kind RX_STOP));
          drops = d;
          written = rw (e, h);
          order = rw (e, h) (sym (none-due (at_work r && true)));
        }

    -- a command that is carried out, by its type
    module _ (t : ℕ) (q : List ℕ) where
      abbrev Right : ℕ → Radio → List Tx → Option Setting → Out → Type 0
      Right kind r ws p o = command_error b k (opened r ws) kind q ≡ none → Framed (command kind t q) r ws p o

      matches-ping : (r : Radio) (ws : List Tx) (p : Option Setting) → Right 1 r ws p (taken (writes_first (ok t) nothing (woken r ws p)))
      unfolding messages_due order_due
      matches-ping r ws p h e = record { lost = l; knows = rw e; drops = d; written = rw (e, h); order = rw (e, h) (sym (none-due (at_work r && true))) }

      matches-info : (r : Radio) (ws : List Tx) (p : Option Setting) → Right 2 r ws p (taken (writes_first (ok_info b t) nothing (woken r ws p)))
      unfolding messages_due order_due
      matches-info r ws p h e = record { lost = l; knows = rw e; drops = d; written = rw (e, h); order = rw (e, h) (sym (none-due (at_work r && true))) }

      matches-set : (r : Radio) (ws : List Tx) → runs? r ≡ false
          → Right 3 r ws none (taken (on_set (setting_of t q) r (with_inbox (ring_emptied i) (woken r ws none))))
      unfolding messages_due order_due
      matches-set free ws z h e =
          record { lost = 0; knows = rw (e, no-err (tags_of ws)); drops = refl; written = rw (e, h) (same-cancels ws); order = rw (e, h) }
      matches-set (listening u) ws z h e =
          record {
            lost = 0;
            knows = rw (e, no-err (tags_of ws));
            drops = refl;
            written = rw (e, h) (ap (λ (ms : List Message). tx_done CANCELLED 0 u ∷ ms) (same-cancels ws));
            order = rw (e, h);
          }
      matches-set (on_air u) ws z h e = record { lost = 0; knows = rw e; drops = refl; written = rw (e, h); order = refl }
      matches-set orphan ws z h e = record { lost = 0; knows = rw e; drops = refl; written = rw (e, h); order = refl }
      matches-set (configuring y) ws z h e = absurd (true≢false z)

      matches-tx : (r : Radio) (ws : List Tx) → (r ≡ free → ws ≡ []) → Right 4 r ws none (taken (on_tx (tx_of t q) r (woken r ws none)))
      unfolding messages_due order_due
      matches-tx free [] f h e =
          record {
            lost = l;
            knows = rw (e, same-begun);
            drops = d;
            written = rw (e, h);
            order = rw (e, h) (ap (transmit (packet_of q)) (same-listens k (get flags q)));
          }
      matches-tx free (w ∷ ws) f h e = absurd (let z = ap length (f refl) in omega arith)
      matches-tx (listening u) ws f h e = record { lost = l; knows = rw e; drops = d; written = rw (e, h); order = rw (e, h) }
      matches-tx (on_air u) ws f h e = record { lost = l; knows = rw e; drops = d; written = rw (e, h); order = refl }
      matches-tx orphan ws f h e = record { lost = l; knows = rw e; drops = d; written = rw (e, h); order = refl }
      matches-tx (configuring y) ws f h e = record { lost = l; knows = rw e; drops = d; written = rw (e, h); order = refl }

      matches-start : (r : Radio) (ws : List Tx) (p : Option Setting) → Right 5 r ws p (taken (turned true t (woken r ws p)))
      unfolding messages_due order_due
      matches-start r ws p h e =
          record {
            lost = l;
            knows = rw e (turned-noted (free? r && not i.receiving) true _);
            drops = d;
            written = rw (e, h);
            order = rw (e, h) (started r i.receiving);
          }

      matches-stop : (r : Radio) (ws : List Tx) (p : Option Setting) → Right 6 r ws p (taken (turned false t (woken r ws p)))
      unfolding messages_due order_due
      matches-stop r ws p h e =
          record {
            lost = l;
            knows = rw e (turned-noted (free? r && i.receiving) false _);
            drops = d;
            written = rw (e, h);
            order = rw (e, h) (stopped r i.receiving);
          }

      right : (kind : ℕ) (r : Radio) (ws : List Tx) → (r ≡ free → ws ≡ []) → runs? r ≡ false
          → Right kind r ws none (taken (on_command b kind t q (woken r ws none)))
      right zero r ws f z h = absurd (let i : ◌≡◌ {A = ℕ} 0 1 = cc in omega arith)
      right (suc zero) r ws f z h = matches-ping r ws none h
      right (suc (suc zero)) r ws f z h = matches-info r ws none h
      right (suc (suc (suc zero))) r ws f z h = matches-set r ws z h
      right (suc (suc (suc (suc zero)))) r ws f z h = matches-tx r ws f h
      right (suc (suc (suc (suc (suc zero))))) r ws f z h = matches-start r ws none h
      right (suc (suc (suc (suc (suc (suc zero)))))) r ws f z h = matches-stop r ws none h
      right (suc (suc (suc (suc (suc (suc (suc y))))))) r ws f z h =
          let e = no-command b (opened r ws) k (suc (suc (suc (suc (suc (suc (suc y))))))) q (omega arith) in
          absurd (let u : ◌≡◌ {A = ℕ} 0 1 = cc in omega arith)

      answered : (kind : ℕ) (r : Radio) (ws : List Tx) → (r ≡ free → ws ≡ []) → runs? r ≡ false
          → (o : Option ℕ) → command_error b k (opened r ws) kind q ≡ o → Framed (command kind t q) r ws none (taken (unless o b kind t q (woken r ws none)))
      answered kind r ws f z (some code) h = matches-wrong kind t code q r ws none h
      answered kind r ws f z none h = right kind r ws f z h

    matches-received : (f : Received) (r : Radio) (ws : List Tx) → (r ≡ free → ws ≡ []) → runs? r ≡ false
        → Framed f r ws none (taken (on_received b f (woken r ws none)))
    unfolding error_of
    matches-received damaged r ws f z = matches-damage r ws none
    matches-received (command kind t q) r ws f z =
        rw (same-open r ws none, same-error b (opened r ws) k kind q) (answered t q kind r ws f z _ refl)

  -- a byte that is taken, and one that is not
  module _ (k : Option Config) (v : Bool) (n : ℕ) (i : Inbox) (d : i.drops ≡ min l 65535) where
    abbrev at : List ℕ → Radio → List Tx → Option Setting → State
    at rs r ws p = state k (link v n rs) (air r ws p) i

    matches-taken : (y : ℕ) (rs : List ℕ) (r : Radio) (ws : List Tx) → (r ≡ free → ws ≡ []) → runs? r ≡ false
        → Matches (at rs r ws none) (byte y) (taken (on_byte b y (at rs r ws none)))
    unfolding messages_due order_due
    matches-taken zero [] r ws f z = record { lost = l; knows = refl; drops = d; written = refl; order = sym (none-due (at_work r && true)) }
    matches-taken zero (x ∷ xs) r ws f z = matches-received k v n x xs i d (received (x ∷ xs)) r ws f z (sym (run-brings (x ∷ xs)))
    matches-taken (suc y) rs r ws f z = record { lost = l; knows = refl; drops = d; written = refl; order = sym (none-due (at_work r && true)) }

    matches-byte : (y : ℕ) (rs : List ℕ) (r : Radio) (ws : List Tx) (p : Option Setting) → (r ≡ free → ws ≡ []) → (u : Bool) → stalled (air r ws p) ≡ u
        → Matches (at rs r ws p) (byte y) (unless_stalled u b y (at rs r ws p))
    matches-byte y rs r ws p f true z = refusal _ (byte y) 1 d
    matches-byte y rs r ws none f false z = matches-taken y rs r ws f z
    matches-byte y rs r ws (some q) f false z = absurd (true≢false z)

  -- ---- all events

  module _ (s : State) (d : s.inbox.drops ≡ min l 65535) (f : s.air.radio ≡ free → s.air.waiting ≡ []) where
    abbrev v : Bool
    v = s.link.session

    abbrev r : Radio
    r = s.air.radio

    abbrev ws : List Tx
    ws = s.air.waiting

    abbrev p : Option Setting
    p = s.air.pending

    matches-event : (e : Event) → Matches s e (on_event b e s)
    matches-event (byte i) =
        matches-byte s.config v s.link.ticks s.inbox d i s.link.run r ws p f _ refl
    matches-event tick = matches-tick s.config s.link.ticks s.link.run s.inbox d v r ws p
    matches-event clear = matches-clear s.config s.link.ticks s.link.run s.inbox d v r ws p
    matches-event busy = matches-busy s.config s.link.ticks s.link.run s.inbox d v r ws p
    matches-event (sent a) = matches-sent s.config s.link.ticks s.link.run s.inbox d a v r ws p
    matches-event configured = matches-configured s.config s.link.ticks s.link.run s.inbox d v r ws p
    matches-event fault = matches-fault s.config s.link.ticks s.link.run s.inbox d v r ws p
    matches-event (packet x) = matches-packet s.config s.link.ticks s.link.run s.inbox d x v r ws p _ refl
    matches-event request = matches-request s.config s.link.ticks s.link.run s.inbox.receiving v s.air s.inbox.drops d s.inbox.ring
    matches-event disconnect = matches-disconnect s.config s.link.ticks s.link.run s.inbox d v r ws p

    matches-room : (v : Bool) (e : Event) → Matches s e (unless_room v b e s)
    matches-room true e = refusal s e 0 d
    matches-room false e = matches-event e

-- each event keeps what the observer knows, and gives what is due
pub returns : (b : Board) (c : List Closed) (n : ℕ) (s : State) (i : Input) → s.inbox.drops ≡ min n 65535 → (s.air.radio ≡ free → s.air.waiting ≡ [])
    → MatchesDue b c n s i.event (step b s i)
unfolding step
returns b c n s i d f = matches-room b c n s d f (ltb i.room room_min) i.event
