-- The radio's outcomes, in code and in the definition.
-- The idea: what comes after a TX goes by the same cases in both, and each outcome is that, or a refusal, or one step.
-- Assumes nothing.
use mathlib.Core.Path.{◌≡◌, refl, sym, ap, ap₂, subst, ◌∙◌}
use mathlib.Core.Bool.{Bool, true, false, cond}
use mathlib.Core.List.{List, [], ◌∷◌, ◌++◌, map, map-append, append-nil, append_assoc}
use mathlib.Core.Option.{Option, none, some}
use Prim.Native.Nat.{ℕ, zero, suc, ◌+◌, ◌%◌, ◌≤◌, ◌<◌, min}
use native.Mathlib.Omega.{arith}
use lib.ListN.{length, length-append}
use Rattle.scalar.specs.Bytes.{Each}
use Rattle.scalar.proofs.Bytes.{each_right}
use Rattle.device.specs.State.{Setting, Tx, State, held, tags_of}
use Rattle.device.specs.State as S
use Rattle.kind.specs.Kinds.{ERADIO, TRANSMITTED, CHANNEL_BUSY, CANCELLED}
use Rattle.device.specs.Messages.{Message, Frame, seen, cancelled, err, tx_done}
use Rattle.device.specs.Events as E
use Rattle.device.proofs.Back.{TagIn}
use Rattle.device.proofs.Ranges.{AirIn}
use Rattle.control.specs.declared.Radio.{Radio}
use Rattle.control.specs.declared.Device.{Device}
use Rattle.control.specs.declared.Order.{Order}
use Rattle.control.specs.declared.Order.TheVariants.{Nothing, Receive}
use Rattle.control.specs.Control.{with_radio, Done, writes_first, idle}
use Rattle.outcome.specs.Outcomes.{fault_frames, lost, on_clear, on_busy, on_sent, on_fault, in_force, on_configured}
use Rattle.slot.specs.Slots.{head_at}
use Rattle.queue.specs.Queue.{listens, begun, start, waiting_tags, begin, next, after_tx}
use Rattle.refinement.specs.Seen.{order_in}
use Rattle.refinement.proofs.Stands.{SetAt, RadioAs, as-free, as-listening, as-on_air, as-orphan, as-configuring, PendingAs, as_none}
use Rattle.refinement.proofs.Stands.{as_some, TxAt, Queue, AirAs, Stands, Agrees, quietly, Answered, takes, refuses, empty-air, with-receiving}
use Rattle.refinement.proofs.Stands.{with-air, same-listens, tx-tag, tx-flags, tx-packet, set-tag, set-mode, set-order, set-ok}

-- ---- those that wait

pub length-tags : (ws : List Tx) → length (tags_of ws) ≡ length ws
length-tags [] = refl
length-tags (w ∷ ws) = ap suc (length-tags ws)

pub bounded-wait : (a : S.Air) → AirIn a → length a.waiting ≤ 16
bounded-wait a i = omega (arith, i.bounded, length-append (held a.radio) (tags_of a.waiting), length-tags a.waiting)

pub tags-wait : (m : List ℕ) (k : ℕ) (ws : List Tx) → Queue m k ws → Each TagIn (tags_of ws) → waiting_tags m k (length ws) ≡ tags_of ws
unfolding waiting_tags
tags-wait m k [] q h = refl
tags-wait m k (w ∷ ws) q h = ap₂ (λ (t : ℕ) (ts : List ℕ). t ∷ ts) (tx-tag q.0 h.0.1) (tags-wait m ((k + 1) % 16) ws q.1 h.1)

pub begun-as : (m : List ℕ) (v : Bool) (t : ℕ) → RadioAs m (begun v t) (E.begun v t)
begun-as m true t = as-listening
begun-as m false t = as-on_air

pub idle-as : (m : List ℕ) (v : Bool) → order_in m (idle v) ≡ E.idle v
unfolding E.idle
idle-as m true = refl
idle-as m false = refl

-- an order that is given in one case only
pub if-as : (m : List ℕ) (v : Bool) (o : Order) {q : S.Order} → order_in m o ≡ q → order_in m (cond v o Nothing) ≡ cond v q S.nothing
if-as m true o e = e
if-as m false o e = refl

-- ---- what comes after a TX

module _ {d : Device} {run m p : List ℕ} {s : State} (h : Stands d run m p s) (ms : List Message) where
  -- the TX x in slot k starts, and ws wait in the slots after it
  pub starts : (x : Tx) (ws : List Tx) (k : ℕ) → TxAt m k x → x.tag < 65536 → Queue m ((k + 1) % 16) ws
      → Agrees (writes_first (map seen ms) (start m k (length ws) d)) run m p (E.start x ws ms s)
  unfolding start
  starts x ws k q t r =
      let e : listens d.mode (head_at m k) ≡ E.listens s.config x.flags = rw (tx-flags q, h.mode) (same-listens s.config x.flags) in
      record {
        next =
            with-air h record {
              radio = rw (e, tx-tag q t) (begun-as m (E.listens s.config x.flags) x.tag);
              pending = as_none;
              first = omega arith;
              count = refl;
              ring = r;
              long = h.air.long;
            };
        writes = append-nil (map seen ms);
        order = ap₂ S.transmit (tx-packet q) e;
      }

  -- the SET_CONFIG c begins, and those that wait are cancelled
  pub begins : (c : Setting) → SetAt m c → AirIn s.air
      → Agrees (writes_first (map seen ms) (begin m d)) run m p (E.begin c (ms ++ cancelled (tags_of s.air.waiting)) s)
  unfolding begin
  begins c q g =
      let ws = s.air.waiting in
      let e : d.air.first % 16 ≡ d.air.first = omega (arith, h.air.first) in
      let n : min d.air.waiting 16 ≡ length ws = omega (arith, h.air.count, bounded-wait s.air g) in
      let ts : waiting_tags m (d.air.first % 16) (min d.air.waiting 16) ≡ tags_of ws =
      rw (e, n) (tags-wait m d.air.first ws h.air.ring (each_right TagIn (held s.air.radio) (tags_of ws) g.tags)) in
      record {
        next = with-air h (empty-air d.air.first (as-configuring q) h.air.first h.air.long);
        writes = rw (ts, map-append);
        order = set-order q;
      }

  pub goes_on : AirIn s.air → Agrees (writes_first (map seen ms) (after_tx m d)) run m p (E.after_tx ms s)
  unfolding after_tx
  goes_on g = go d.air.pending d.air.waiting s.air.pending s.air.waiting h.air.pending h.air.count h.air.ring refl
      (each_right TagIn (held s.air.radio) (tags_of s.air.waiting) g.tags)
    where
      go : (v : Bool) (n : ℕ) (q : Option Setting) (ws : List Tx) → PendingAs m v q → n ≡ length ws → Queue m d.air.first ws → ws ≡ s.air.waiting
          → Each TagIn (tags_of ws)
          → Agrees (writes_first (map seen ms) (next v n m d)) run m p (E.next q ws ms s)
      go true n (some c) ws (as_some q) l r e t = rw e (begins c q g)
      go true n none ws x l r e t = elim x [ ]
      go false zero (some c) ws x l r e t = elim x [ ]
      go false (suc n) (some c) ws x l r e t = elim x [ ]
      go false zero none [] as_none l r e t =
          record {
            next = with-air h (empty-air d.air.first as-free h.air.first h.air.long);
            writes = append-nil (map seen ms);
            order = rw h.inbox.receiving (idle-as m s.inbox.receiving);
          }
      go false (suc n) none [] as_none l r e t = absurd (omega arith)
      go false zero none (w ∷ ws) as_none l r e t = absurd (omega arith)
      go false (suc n) none (w ∷ ws) as_none l r e t =
          let a : d.air.first % 16 ≡ d.air.first = omega (arith, h.air.first) in
          let b : n ≡ length ws = omega arith in
          rw (a, b) (starts w ws d.air.first r.0 t.0.1 r.1)

-- one thing is said before another
twice : (fs gs : List Frame) (x : Done) → writes_first fs (writes_first gs x) ≡ writes_first (fs ++ gs) x
twice fs gs x = rw append_assoc

-- ---- the five outcomes

module _ {d : Device} {run m p : List ℕ} {s : State} (h : Stands d run m p s) where
  -- the same air, with another radio
  turns : {r : Radio} {q : S.Radio} → RadioAs m r q → AirAs (with_radio d.air r) m (S.air q s.air.waiting s.air.pending)
  turns x =
      record {
        radio = x;
        pending = h.air.pending;
        first = h.air.first;
        count = h.air.count;
        ring = h.air.ring;
        long = h.air.long;
      }

  pub on-clear : {r : Radio} {q : S.Radio} → RadioAs m r q → Answered (on_clear r d) run m p (E.on_clear q s)
  on-clear as-free = refuses h 3
  on-clear as-listening = takes (quietly (with-air h (turns as-on_air)))
  on-clear as-on_air = refuses h 3
  on-clear as-orphan = refuses h 3
  on-clear (as-configuring x) = refuses h 3

  module _ (g : AirIn s.air) where
    pub on-busy : {r : Radio} {q : S.Radio} → RadioAs m r q → Answered (on_busy r m d) run m p (E.on_busy q s)
    on-busy as-free = refuses h 3
    on-busy (as-listening {t}) = takes (goes_on h (tx_done CHANNEL_BUSY 0 t ∷ []) g)
    on-busy as-on_air = refuses h 3
    on-busy as-orphan = refuses h 3
    on-busy (as-configuring x) = refuses h 3

    pub on-sent : (airtime : ℕ) {r : Radio} {q : S.Radio} → RadioAs m r q → Answered (on_sent airtime r m d) run m p (E.on_sent airtime q s)
    on-sent airtime as-free = refuses h 3
    on-sent airtime as-listening = refuses h 3
    on-sent airtime (as-on_air {t}) = takes (goes_on h (tx_done TRANSMITTED airtime t ∷ []) g)
    on-sent airtime as-orphan = takes (goes_on h [] g)
    on-sent airtime (as-configuring x) = refuses h 3

    abbrev complains : List Message
    complains = E.if_session s.link.session (err ERADIO 0)

    -- what is said is the same, and then all goes on
    after : (ms : List Message) (fs : List Frame) → fs ≡ map seen ms → Agrees (writes_first fs (after_tx m d)) run m p (E.after_tx ms s)
    after ms fs e = subst (λ (gs : List Frame). Agrees (writes_first gs (after_tx m d)) run m p (E.after_tx ms s)) (sym e) (goes_on h ms g)

    noted-same : fault_frames d.link.session 0 ≡ map seen complains
    noted-same = ap (λ (v : Bool). fault_frames v 0) h.link.session

    lost-too : (t : ℕ) → Agrees (lost t m d) run m p (E.after_tx (complains ++ (tx_done CANCELLED 0 t ∷ [])) s)
    lost-too t =
        subst (λ (x : Done). Agrees x run m p (E.after_tx (complains ++ (tx_done CANCELLED 0 t ∷ [])) s))
        (sym (twice (fault_frames d.link.session 0) (seen (tx_done CANCELLED 0 t) ∷ []) (after_tx m d)))
        (after (complains ++ (tx_done CANCELLED 0 t ∷ [])) _
        (ap (λ (fs : List Frame). fs ++ (seen (tx_done CANCELLED 0 t) ∷ [])) noted-same ∙ sym (map-append seen complains (tx_done CANCELLED 0 t ∷ []))))

    noted-too : Agrees (writes_first (fault_frames d.link.session 0) (after_tx m d)) run m p (E.after_tx complains s)
    noted-too = after complains _ noted-same

    pub on-fault : {r : Radio} {q : S.Radio} → RadioAs m r q → Agrees (on_fault r m d) run m p (E.on_fault q s)
    on-fault as-free = noted-too
    on-fault (as-listening {t}) = lost-too t
    on-fault (as-on_air {t}) = lost-too t
    on-fault as-orphan = noted-too
    on-fault (as-configuring x) =
        record {
          next = record { link = h.link; mode = refl; air = turns as-free; inbox = with-receiving false h.inbox };
          writes = ap₂ fault_frames h.link.session (set-tag x);
          order = refl;
        }

  pub on-configured : {r : Radio} {q : S.Radio} → RadioAs m r q → Answered (on_configured r m d) run m p (E.on_configured q s)
  on-configured as-free = refuses h 3
  on-configured as-listening = refuses h 3
  on-configured as-on_air = refuses h 3
  on-configured as-orphan = refuses h 3
  on-configured (as-configuring {c} x) =
      takes (subst (λ (v : Bool). Agrees (in_force v m d) run m p (E.in_force s.link.session c s)) (sym h.link.session) (go s.link.session))
    where
      go : (v : Bool) → Agrees (in_force v m d) run m p (E.in_force v c s)
      go true =
          record {
            next = record { link = h.link; mode = set-mode x; air = turns as-free; inbox = h.inbox };
            writes = ap (λ (f : Frame). f ∷ []) (set-ok x);
            order = rw h.inbox.receiving (if-as m s.inbox.receiving Receive refl);
          }
      go false = record { next = with-air h (turns as-free); writes = refl; order = refl }
