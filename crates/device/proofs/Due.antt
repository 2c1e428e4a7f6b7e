-- What is read off the messages that are due: one ERR(EFRAME) with tag 0 where a damaged run ends, and no other; one drop count where an RX is due, and no
-- other.
-- The idea: apart from that ERR and that RX each message is `Plain`, which both readings pass over.
-- Assumes nothing.
use mathlib.Core.Path.{◌≡◌, refl, sym, ap}
use mathlib.Core.Bool.{Bool, true, false, cond, ◌&&◌, and-false, true≢false}
use mathlib.Core.List.{List, [], ◌∷◌, ◌++◌, map}
use mathlib.Core.Option.{Option, none, some}
use Prim.Native.Nat.{ℕ, zero, suc, ◌<◌, min}
use native.Mathlib.Omega.{arith}
use lib.Dec.{ltb, eqb, eqb-suc-zero}
use lib.ListN.{length}
use borrow.Author.Tests.{lt-ltb}
use Rattle.buffer.specs.Lay.{lay}
use Rattle.scalar.specs.Scalars.{le, number}
use Rattle.scalar.specs.Bytes.{Each}
use Rattle.scalar.proofs.Bytes.{each_append}
use Rattle.scalar.proofs.Laws.{number-le}
use Rattle.kind.specs.Kinds.{SET_CONFIG, GET_INFO, ERR, RX, ERADIO, EFRAME}
use Rattle.rx.specs.Rx.{rx_of, rx_bytes}
use Rattle.rx.specs.declared.Rx.{Rx}
use Rattle.answer.specs.Answers.{answer_kind, answer_bytes}
use Rattle.answer.specs.declared.Answer.TheVariants as A
use Rattle.board.specs.Board.{Board, board_info, uids_of}
use Rattle.device.specs.State.{Setting, Tx, Radio, free, listening, on_air, orphan, configuring, Packet, Air}
use Rattle.device.specs.State.{Event, byte, tick, clear, busy, sent, configured, fault, packet, request, disconnect, nothing}
use Rattle.device.specs.Messages.{Frame, frame, Message, message, payload, seen}
use Rattle.device.specs.Frames.{Received, damaged, command}
use Rattle.device.specs.Reading.{frame_in, tagged, brings}
use Rattle.device.specs.Tally.{Tally, if_taken}
use Rattle.device.specs.Observer.{Observer}
use Rattle.device.specs.Due.{is_on_air, is_configuring, unless_error, brought_by, run_brings, byte_brings, command_error, opened, err_due, brought_answer}
use Rattle.device.specs.Due.{configured_answer, fault_answer, in_session, answers_due, radio_report, cancels, cancels_after, end_reports}
use Rattle.device.specs.Due.{set_reports, brought_reports, reports_due, oldest, deliveries_due, messages_due, brought_order, at_work, order_due}
use Rattle.device.specs.Demands.{damaged?, run_damaged, ends_damaged, eframes, drop_counts, request?, due}

-- ---- messages that both readings pass over

-- no RX, and no ERR(EFRAME) with tag 0
record Plain (m : Message) : Type 0 where
  rx : eqb (answer_kind m.answer) RX ≡ false
  eframe : (eqb (answer_kind m.answer) ERR && (eqb m.tag 0 && eqb (number (payload m)) EFRAME)) ≡ false

plain-eframes : (ms : List Message) → Each Plain ms → eframes (map seen ms) ≡ 0
unfolding eframes
plain-eframes [] h = refl
plain-eframes (m ∷ ms) h = rw (h.0.eframe, plain-eframes ms h.1)

plain-drops : (ms : List Message) → Each Plain ms → drop_counts (map seen ms) ≡ []
unfolding drop_counts
plain-drops [] h = refl
plain-drops (m ∷ ms) h = rw (h.0.rx, plain-drops ms h.1)

-- an ERR with a tag, or with another code
plain-err : (code t : ℕ) → Plain (err_due code (suc t))
plain-err code t = record { rx = refl; eframe = rw (eqb-suc-zero t) }

plain-radio : (t : ℕ) → Plain (err_due ERADIO t)
unfolding answer_bytes lay le number
plain-radio t = record { rx = refl; eframe = and-false (eqb t 0) }

-- ---- OK and ERR, TX_DONE

plain-report : (result airtime : ℕ) (r : Radio) → Each Plain (radio_report result airtime r)
plain-report result airtime free = tt
plain-report result airtime (listening t) = (record { rx = refl; eframe = refl }, tt)
plain-report result airtime (on_air t) = (record { rx = refl; eframe = refl }, tt)
plain-report result airtime orphan = tt
plain-report result airtime (configuring c) = tt

plain-cancels : (ws : List Tx) → Each Plain (cancels ws)
plain-cancels [] = tt
plain-cancels (w ∷ ws) = (record { rx = refl; eframe = refl }, plain-cancels ws)

plain-after : (p : Option Setting) (ws : List Tx) → Each Plain (cancels_after p ws)
plain-after none ws = tt
plain-after (some c) ws = plain-cancels ws

plain_end : (result airtime : ℕ) (a : Air) → Each Plain (end_reports result airtime a)
plain_end result airtime a =
    each_append Plain (radio_report result airtime a.radio) (cancels_after a.pending a.waiting)
    (plain-report result airtime a.radio) (plain-after a.pending a.waiting)

plain-either : (v : Bool) (ms ns : List Message) → Each Plain ms → Each Plain ns → Each Plain (cond v ms ns)
plain-either true ms ns h k = h
plain-either false ms ns h k = k

plain-set : (a : Air) → Each Plain (set_reports a)
plain-set a =
    plain-either (is_on_air a.radio) [] (radio_report 2 0 a.radio ++ cancels a.waiting) tt
    (each_append Plain (radio_report 2 0 a.radio) (cancels a.waiting) (plain-report 2 0 a.radio) (plain-cancels a.waiting))

plain-session : (v : Bool) (ms : List Message) → Each Plain ms → Each Plain (in_session v ms)
plain-session true ms h = h
plain-session false ms h = tt

plain-configured : (r : Radio) → Each Plain (configured_answer r)
plain-configured free = tt
plain-configured (listening t) = tt
plain-configured (on_air t) = tt
plain-configured orphan = tt
plain-configured (configuring c) = (record { rx = refl; eframe = refl }, tt)

plain-fault : (r : Radio) → Each Plain (fault_answer r)
plain-fault free = (plain-radio 0, tt)
plain-fault (listening t) = (plain-radio 0, tt)
plain-fault (on_air t) = (plain-radio 0, tt)
plain-fault orphan = (plain-radio 0, tt)
plain-fault (configuring c) = (plain-radio c.tag, tt)

-- a command, which has a tag
plain-command : (b : Board) (o : Option ℕ) (kind t : ℕ) (p : List ℕ) (a : Air)
    → let x = unless_error o kind (suc t) p in Each Plain (brought_answer b x ++ brought_reports x a)
plain-command b (some code) kind t p a = (plain-err code t, tt)
plain-command b none kind t p a = go (eqb kind SET_CONFIG) (eqb kind GET_INFO)
  where
    go : (set info : Bool)
        → Each Plain
        (cond set [] (cond info (message (suc t) (A.Info (board_info b)) (uids_of b) ∷ []) (message (suc t) A.Ok [] ∷ [])) ++ cond set (set_reports a) [])
    go true info = plain-set a
    go false true = (record { rx = refl; eframe = refl }, tt)
    go false false = (record { rx = refl; eframe = refl }, tt)

module _ (b : Board) (t : Tally) (k : Observer) where
  abbrev WritesDue : Event → Type 0
  WritesDue e = Each Plain (answers_due b e t k ++ reports_due b e t k)

  -- where no damaged run ends
  plain-run : (fs : List Frame) → damaged? (tagged fs) ≡ false
      → let x = brought_by b (tagged fs) k in Each Plain (brought_answer b x ++ brought_reports x k.air)
  plain-run [] h = absurd (true≢false h)
  plain-run (frame kind zero p ∷ fs) h = absurd (true≢false h)
  plain-run (frame kind (suc u) p ∷ fs) h = plain-command b (command_error b k.config (opened k.air.radio k.air.waiting) kind p) kind u p k.air

  plain_byte : (n : ℕ) (rs : List ℕ) → ends_damaged (byte n) rs ≡ false
      → let x = byte_brings b n rs k in Each Plain (brought_answer b x ++ brought_reports x k.air)
  unfolding brings
  plain_byte zero [] h = tt
  plain_byte zero (r ∷ rs) h = plain-run (frame_in (r ∷ rs)) h
  plain_byte (suc n) rs h = tt

  plain-failed : (v : Bool) (r : Radio) → Each Plain (in_session v (fault_answer r) ++ cond (is_configuring r) [] (end_reports 2 0 k.air))
  plain-failed v r =
      each_append Plain (in_session v (fault_answer r)) (cond (is_configuring r) [] (end_reports 2 0 k.air))
      (plain-session v (fault_answer r) (plain-fault r)) (plain-either (is_configuring r) [] (end_reports 2 0 k.air) tt (plain_end 2 0 k.air))

  plain-confirmed : (v : Bool) (r : Radio) → Each Plain (in_session v (configured_answer r) ++ [])
  plain-confirmed v r = each_append Plain (in_session v (configured_answer r)) [] (plain-session v (configured_answer r) (plain-configured r)) tt

  plain-writes : (e : Event) → ends_damaged e t.run ≡ false → WritesDue e
  plain-writes (byte n) h = plain_byte n t.run h
  plain-writes tick h = tt
  plain-writes clear h = tt
  plain-writes busy h = plain_end 1 0 k.air
  plain-writes (sent airtime) h = plain_end 0 airtime k.air
  plain-writes configured h = plain-confirmed t.session k.air.radio
  plain-writes fault h = plain-failed t.session k.air.radio
  plain-writes (packet p) h = tt
  plain-writes request h = tt
  plain-writes disconnect h = tt

  -- ---- a damaged run

  is-damaged : (f : Received) → damaged? f ≡ true → f ≡ damaged
  is-damaged damaged h = refl
  is-damaged (command kind u p) h = absurd (true≢false (sym h))

  nothing-ordered : (v : Bool) → cond v nothing nothing ≡ nothing
  nothing-ordered true = refl
  nothing-ordered false = refl

  damage-run : (rs : List ℕ) → run_damaged rs ≡ true
      → let x = run_brings b rs k in
      (brought_answer b x ++ brought_reports x k.air ≡ err_due EFRAME 0 ∷ []) × (cond (at_work k.air.radio && true) nothing (brought_order x k) ≡ nothing)
  damage-run [] h = absurd (true≢false (sym h))
  damage-run (r ∷ rs) h =
      let e = is-damaged (brings (r ∷ rs)) h in
      (rw e, rw e (nothing-ordered (at_work k.air.radio && true)))

  pub damage-due : (e : Event) → ends_damaged e t.run ≡ true → (messages_due b 0 e t k ≡ err_due EFRAME 0 ∷ []) × (order_due b 0 e t k ≡ nothing)
  unfolding messages_due order_due
  damage-due (byte zero) h = damage-run t.run h
  damage-due (byte (suc n)) h = absurd (true≢false (sym h))
  damage-due tick h = absurd (true≢false (sym h))
  damage-due clear h = absurd (true≢false (sym h))
  damage-due busy h = absurd (true≢false (sym h))
  damage-due (sent airtime) h = absurd (true≢false (sym h))
  damage-due configured h = absurd (true≢false (sym h))
  damage-due fault h = absurd (true≢false (sym h))
  damage-due (packet p) h = absurd (true≢false (sym h))
  damage-due request h = absurd (true≢false (sym h))
  damage-due disconnect h = absurd (true≢false (sym h))

  -- ---- how many ERR(EFRAME), and which drop counts, are due

  -- of an event that delivers nothing
  record Reads (e : Event) : Type 0 where
    damages : eframes (map seen (messages_due b 0 e t k)) ≡ cond (ends_damaged e t.run) 1 0
    drops : drop_counts (map seen (messages_due b 0 e t k)) ≡ []

  undelivered : (e : Event) → deliveries_due e k ≡ [] → messages_due b 0 e t k ≡ answers_due b e t k ++ reports_due b e t k
  unfolding messages_due
  undelivered e h = rw h

  reads : (e : Event) → deliveries_due e k ≡ [] → (v : Bool) → ends_damaged e t.run ≡ v → Reads e
  unfolding eframes drop_counts answer_bytes lay le number
  reads e h true q = record { damages = rw ((damage-due e q).0, q); drops = rw (damage-due e q).0 }
  reads e h false q =
      let ms = answers_due b e t k ++ reports_due b e t k in
      record {
        damages = rw (undelivered e h, q) (plain-eframes ms (plain-writes e q));
        drops = rw (undelivered e h) (plain-drops ms (plain-writes e q));
      }

  -- a request
  dropped-back : (x : Rx) (bs : List ℕ) → x.packets_dropped < 0x10000 → (rx_of (rx_bytes x ++ bs)).packets_dropped ≡ x.packets_dropped
  unfolding rx_of rx_bytes lay le
  dropped-back x bs h = number-le 2 x.packets_dropped h

  delivers : (ps : List Packet) (n : ℕ)
      → (eframes (map seen (oldest ps n ++ [])) ≡ 0)
      × (drop_counts (map seen (oldest ps n ++ [])) ≡ cond (ltb 0 (length ps)) (min n 65535 ∷ []) [])
  unfolding eframes drop_counts answer_bytes
  delivers [] n = (refl, refl)
  delivers (p ∷ ps) n = (refl, rw (lt-ltb 0 (suc (length ps)) (omega arith)) (ap (λ (i : ℕ). i ∷ []) (dropped-back _ p.bytes (omega arith))))

  pub eframes-due : (number : ℕ) (e : Event) → eframes (map seen (messages_due b number e t k)) ≡ if_taken number (cond (ends_damaged e t.run) 1 0) 0
  unfolding messages_due eframes
  eframes-due (suc n) e = refl
  eframes-due zero (byte n) = (reads (byte n) refl _ refl).damages
  eframes-due zero tick = refl
  eframes-due zero clear = refl
  eframes-due zero busy = (reads busy refl _ refl).damages
  eframes-due zero (sent airtime) = (reads (sent airtime) refl _ refl).damages
  eframes-due zero configured = (reads configured refl _ refl).damages
  eframes-due zero fault = (reads fault refl _ refl).damages
  eframes-due zero (packet p) = refl
  eframes-due zero request = (delivers k.inbox.ring k.inbox.drops).0
  eframes-due zero disconnect = refl

  pub drops-due : (number : ℕ) (e : Event) → drop_counts (map seen (messages_due b number e t k)) ≡ cond (due e number k) (min k.inbox.drops 65535 ∷ []) []
  unfolding messages_due drop_counts
  drops-due (suc n) e = rw (and-false (request? e))
  drops-due zero (byte n) = (reads (byte n) refl _ refl).drops
  drops-due zero tick = refl
  drops-due zero clear = refl
  drops-due zero busy = (reads busy refl _ refl).drops
  drops-due zero (sent airtime) = (reads (sent airtime) refl _ refl).drops
  drops-due zero configured = (reads configured refl _ refl).drops
  drops-due zero fault = (reads fault refl _ refl).drops
  drops-due zero (packet p) = refl
  drops-due zero request = (delivers k.inbox.ring k.inbox.drops).1
  drops-due zero disconnect = refl
