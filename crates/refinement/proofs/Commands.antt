-- The commands, in code and in the definition.
-- The idea: a byte is taken only while no SET_CONFIG waits or runs, so a store into the memory of commands touches only what waits there.
-- Assumes nothing.
use mathlib.Core.Path.{◌≡◌, refl, sym, ap, ap₂, subst, ◌∙◌}
use mathlib.Core.Bool.{Bool, true, false, cond, ◌&&◌, true≢false}
use mathlib.Core.List.{List, [], ◌∷◌, ◌++◌}
use mathlib.Core.Option.{Option, none, some}
use Prim.Native.Nat.{ℕ, ◌+◌, ◌*◌, ◌%◌, ◌≤◌, ◌<◌}
use native.Mathlib.Omega.{arith}
use borrow.Author.Tests.{eqb-true}
use lib.Dec.{eqb}
use lib.ListN.{length, length-append}
use Rattle.buffer.specs.Lay.{lay}
use Rattle.buffer.proofs.Deciding.{neither}
use Rattle.buffer.proofs.Laws.{length-lay}
use Rattle.scalar.specs.Bytes.{Bytes}
use Rattle.scalar.specs.Scalars.{le, number}
use Rattle.kind.specs.Kinds.{GET_INFO, SET_CONFIG, TX, RX_START, RX_STOP, CANCELLED}
use Rattle.form.specs.Forms.{exactly}
use Rattle.form.proofs.Laws.{exactly-size}
use Rattle.modulation.specs.Modulations.{config_form}
use Rattle.modulation.proofs.Laws.{form-bounds, config-same}
use Rattle.board.specs.Board.{sx1262}
use Rattle.device.specs.State.{Setting, Tx, State, held, tags_of}
use Rattle.device.specs.State as S
use Rattle.device.specs.Messages.{Message, seen, ok, ok_info, err, tx_done}
use Rattle.device.specs.Frames.{error_for, error_of, setting_of, tx_of}
use Rattle.device.specs.Events.{changed}
use Rattle.device.specs.Events as E
use Rattle.device.proofs.Back.{TagIn}
use Rattle.device.proofs.Ranges.{AirIn}
use Rattle.control.specs.declared.Radio.{Radio}
use Rattle.control.specs.declared.Air.{Air}
use Rattle.control.specs.declared.Device.{Device}
use Rattle.control.specs.declared.Order.TheVariants.{Nothing}
use Rattle.control.specs.Control.{free?, runs?, stalled, ring_emptied, with_inbox, unconfigured, Done, does, writes_first, idle}
use Rattle.slot.specs.Slots.{setting, slot_bytes, command_kept}
use Rattle.queue.specs.Queue.{start}
use Rattle.validation.proofs.Laws.{none-set, none-tx, TxIn}
use Rattle.dispatch.specs.Commands.{CommandGives, command_gives, open#, slot_for, waits_too, on_tx, pends, sets, on_set, turned, at_once, on_command, unless}
use Rattle.dispatch.specs.Commands.{dispatched}
use Rattle.refinement.specs.Seen.{order_in}
use Rattle.refinement.proofs.Slots.{laid, wheel16, ring-push, ring-apart}
use Rattle.refinement.proofs.Stands.{SetAt, RadioAs, as-free, as-listening, as-on_air, as-orphan, as-configuring, PendingAs, as_none, as_some}
use Rattle.refinement.proofs.Stands.{tx_slot, TxAt, Queue, AirAs, Stands, Agrees, quietly, empty-inbox, with-receiving, with-air, with-inbox}
use Rattle.refinement.proofs.Stands.{same-unconfigured}
use Rattle.refinement.proofs.Outcomes.{length-tags, begins, starts, idle-as, if-as}
use Rattle.refinement.proofs.Inbox.{same-free}

-- ---- another memory, where no SET_CONFIG waits or runs

radio-on : {m : List ℕ} {r : Radio} {q : S.Radio} (n : List ℕ) → RadioAs m r q → runs? r ≡ false → RadioAs n r q
radio-on n as-free e = as-free
radio-on n as-listening e = as-listening
radio-on n as-on_air e = as-on_air
radio-on n as-orphan e = as-orphan
radio-on n (as-configuring x) e = absurd (true≢false e)

pending-on : {m : List ℕ} {v : Bool} {o : Option Setting} (n : List ℕ) → PendingAs m v o → v ≡ false → PendingAs n v o
pending-on n as_none e = as_none
pending-on n (as_some x) e = absurd (true≢false e)

-- ---- how many are open

same-open : {a : Air} {m : List ℕ} {b : S.Air} → AirAs a m b → open# a ≡ S.open# b
same-open {a} {m} {b} h = go h.radio
  where
    go : {r : Radio} {q : S.Radio} → RadioAs m r q → open# record { radio = r; pending = a.pending; first = a.first; waiting = a.waiting }
        ≡ length (held q ++ tags_of b.waiting)
    go as-free = omega (arith, h.count, length-tags b.waiting)
    go as-listening = omega (arith, h.count, length-tags b.waiting)
    go as-on_air = omega (arith, h.count, length-tags b.waiting)
    go as-orphan = omega (arith, h.count, length-tags b.waiting)
    go (as-configuring x) = omega (arith, h.count, length-tags b.waiting)

-- ---- TX

-- the payload of a TX in its slot
slot-tx : (t : ℕ) (p : List ℕ) → 2 ≤ length p → slot_bytes t p ≡ tx_slot (tx_of t p)
unfolding number
slot-tx t [] h = absurd (omega arith)
slot-tx t (f ∷ bs) h =
    ap₂ (λ (n g : ℕ). n ∷ (le 2 t ++ (g ∷ bs))) (omega arith) (omega arith)

length-tx : (t : ℕ) (p : List ℕ) → 2 ≤ length p → length p ≤ 256 → length (tx_slot (tx_of t p)) ≤ 259
unfolding le
length-tx t [] h l = absurd (omega arith)
length-tx t (f ∷ bs) h l = omega arith

module _ {d : Device} {run m ps : List ℕ} {s : State} (h : Stands d run m ps s) (calm : stalled d.air ≡ false) where
  abbrev resting : (d.air.pending ≡ false) × (runs? d.air.radio ≡ false)
  resting = neither d.air.pending (runs? d.air.radio) calm

  -- the state with another memory of commands, in which the same TX wait
  rests : (n : List ℕ) → length n ≡ 4403 → Queue n d.air.first s.air.waiting → Stands d run n ps s
  rests n l q =
      with-air h record {
        radio = radio-on n h.air.radio resting.1;
        pending = pending-on n h.air.pending resting.0;
        first = h.air.first;
        count = h.air.count;
        ring = q;
        long = l;
      }

  module _ (t : ℕ) (p : List ℕ) (tag : t < 65536) (least : 2 ≤ length p) (most : length p ≤ 256) (room : length s.air.waiting < 16) where
    abbrev x : Tx
    x = tx_of t p

    abbrev k : ℕ
    k = slot_for d.air

    m' : List ℕ
    m' = command_kept m k t p

    stored : m' ≡ lay (k * 259) (tx_slot x) m
    unfolding m' command_kept
    stored = ap (λ (bs : List ℕ). lay (k * 259) bs m) (slot-tx t p least)

    fits : k * 259 + length (tx_slot x) ≤ length m
    fits = omega (arith, length-tx t p least most, h.air.long)

    long' : length m' ≡ 4403
    long' = ap length stored ∙ length-lay (k * 259) (tx_slot x) m fits ∙ h.air.long

    at : k ≡ (d.air.first + length s.air.waiting) % 16
    at = ap (λ (n : ℕ). (d.air.first + n) % 16) h.air.count

    more : Queue m' d.air.first (s.air.waiting ++ (x ∷ []))
    more =
        subst (λ (n : List ℕ). Queue n d.air.first (s.air.waiting ++ (x ∷ []))) (sym stored)
        (ring-push 259 16 tx_slot wheel16 m x k (length-tx t p least most) fits d.air.first s.air.waiting h.air.first room at h.air.ring)

    waits : (q : S.Radio) → RadioAs m' d.air.radio q → Agrees (writes_first (seen (ok t) ∷ []) (waits_too d)) run m' ps (E.waits_for x q s)
    waits q r =
        record {
          next =
              with-air h record {
                radio = r;
                pending = pending-on m' h.air.pending resting.0;
                first = h.air.first;
                count = rw length-append (omega (arith, h.air.count));
                ring = more;
                long = long';
              };
          writes = refl;
          order = refl;
        }

    starts-now : s.air.waiting ≡ []
        → Agrees (writes_first (seen (ok t) ∷ []) (start m' k d.air.waiting d)) run m' ps (E.start x s.air.waiting (ok t ∷ []) s)
    starts-now e =
        let z : d.air.waiting ≡ 0 = h.air.count ∙ ap length e in
        let f : k ≡ d.air.first = omega (arith, h.air.first) in
        let q : Queue m' d.air.first (x ∷ []) = subst (λ (ws : List Tx). Queue m' d.air.first (ws ++ (x ∷ []))) e more in
        subst (λ (n : ℕ). Agrees (writes_first (seen (ok t) ∷ []) (start m' k n d)) run m' ps (E.start x s.air.waiting (ok t ∷ []) s)) (sym z)
        (subst (λ (ws : List Tx). Agrees (writes_first (seen (ok t) ∷ []) (start m' k 0 d)) run m' ps (E.start x ws (ok t ∷ []) s)) (sym e)
        (starts (rests m' long' (subst (λ (ws : List Tx). Queue m' d.air.first ws) (sym e) tt)) (ok t ∷ []) x [] k
        (subst (λ (j : ℕ). TxAt m' j x) (sym f) q.0) tag tt))

    pub takes : (s.air.radio ≡ S.free → s.air.waiting ≡ []) → Agrees (on_tx t p m d).done run (on_tx t p m d).commands ps (E.on_tx x s.air.radio s)
    unfolding on_tx m'
    takes g = go h.air.radio refl refl
      where
        go : {r : Radio} {q : S.Radio} → RadioAs m r q → r ≡ d.air.radio → q ≡ s.air.radio
            → Agrees (writes_first (seen (ok t) ∷ []) (cond (free? r) (start m' k d.air.waiting d) (waits_too d))) run m' ps (E.on_tx x q s)
        go as-free e f = starts-now (g (sym f))
        go (as-listening {t = u}) e f = waits (S.listening u) (subst (λ (r : Radio). RadioAs m' r (S.listening u)) e as-listening)
        go (as-on_air {t = u}) e f = waits (S.on_air u) (subst (λ (r : Radio). RadioAs m' r (S.on_air u)) e as-on_air)
        go as-orphan e f = waits S.orphan (subst (λ (r : Radio). RadioAs m' r S.orphan) e as-orphan)
        go (as-configuring y) e f = absurd (true≢false (ap runs? e ∙ resting.1))

  -- ---- SET_CONFIG

  module _ (t : ℕ) (p : List ℕ) (tag : t < 65536) (bytes : Bytes p) (form : exactly (config_form p) (length p) ≡ true) (g : AirIn s.air) where
    abbrev c : Setting
    c = setting_of t p

    abbrev sizes : (16 ≤ length p) × (length p ≤ 25)
    sizes = form-bounds p (length p) (exactly-size (config_form p) (length p) form)

    length-slot : length (slot_bytes t p) ≡ 3 + length p
    unfolding le
    length-slot = omega arith

    fits-set : setting * 259 + length (slot_bytes t p) ≤ length m
    fits-set = omega (arith, length-slot, sizes.1, h.air.long)

    set_at : SetAt (command_kept m setting t p) c
    unfolding command_kept
    set_at =
        record {
          payload = p;
          at = laid m (slot_bytes t p) (setting * 259) (omega (arith, h.air.long));
          small = tag;
          config = refl;
          same = config-same p bytes form;
          long = sizes.0;
        }

    rests-set : Stands d run (command_kept m setting t p) ps s
    unfolding command_kept
    rests-set =
        rests (lay (setting * 259) (slot_bytes t p) m) (length-lay (setting * 259) (slot_bytes t p) m fits-set ∙ h.air.long)
        (ring-apart 259 16 tx_slot wheel16 m setting (setting * 259) (slot_bytes t p) (omega arith) (omega (arith, length-slot, sizes.1)) fits-set
        d.air.first s.air.waiting h.air.first (omega arith) h.air.ring)

    -- the ring is emptied
    emptied : Stands (with_inbox d (ring_emptied d.inbox)) run (command_kept m setting t p) ps (S.with_inbox (E.ring_emptied s.inbox) s)
    emptied = with-inbox rests-set (empty-inbox d.inbox.first h.inbox.receiving h.inbox.first h.inbox.long)

    pended : (q : S.Radio) → RadioAs (command_kept m setting t p) d.air.radio q
        → Agrees (pends (with_inbox d (ring_emptied d.inbox))) run (command_kept m setting t p) ps
        (E.does (S.with_air (S.air q s.air.waiting (some c)) (S.with_inbox (E.ring_emptied s.inbox) s)) [] S.nothing)
    pended q r =
        quietly
        (with-air emptied record {
          radio = r;
          pending = as_some set_at;
          first = h.air.first;
          count = h.air.count;
          ring = rests-set.air.ring;
          long = rests-set.air.long;
        })

    pub set-up : Agrees (on_set t p m d).done run (on_set t p m d).commands ps (E.on_set c s.air.radio (S.with_inbox (E.ring_emptied s.inbox) s))
    unfolding on_set
    set-up = go h.air.radio refl
      where
        go : {r : Radio} {q : S.Radio} → RadioAs m r q → r ≡ d.air.radio
            → Agrees (sets r (command_kept m setting t p) (with_inbox d (ring_emptied d.inbox))) run (command_kept m setting t p) ps
            (E.on_set c q (S.with_inbox (E.ring_emptied s.inbox) s))
        go as-free e = begins emptied [] c set_at g
        go (as-listening {t = u}) e = begins emptied (tx_done CANCELLED 0 u ∷ []) c set_at g
        go (as-on_air {t = u}) e = pended (S.on_air u) (subst (λ (r : Radio). RadioAs (command_kept m setting t p) r (S.on_air u)) e as-on_air)
        go as-orphan e = pended S.orphan (subst (λ (r : Radio). RadioAs (command_kept m setting t p) r S.orphan) e as-orphan)
        go (as-configuring y) e = absurd (true≢false (ap runs? e ∙ resting.1))

  -- ---- the other commands

  pub turns : (on : Bool) (t : ℕ) → Agrees (turned on t d) run m ps (E.turned on t s)
  unfolding turned
  turns on t =
      record {
        next = with-inbox h (with-receiving on h.inbox);
        writes = refl;
        order =
            ap₂ (λ (v w : Bool). order_in m (cond (v && changed on w) (idle on) Nothing)) (same-free h.air.radio) h.inbox.receiving
            ∙ if-as m (S.free? s.air.radio && changed on s.inbox.receiving) (idle on) (idle-as m on);
      }

  pub answers : (a : Message) → Agrees (does d (seen a ∷ []) Nothing) run m ps (E.writes_first a S.nothing s)
  answers a = record { next = h; writes = refl; order = refl }

  -- ---- a command

  abbrev pub Ruling : CommandGives → E.Done → Type 0
  Ruling x o = Agrees x.done run x.commands ps o

  module _ (kind t : ℕ) (p : List ℕ) (tag : TagIn t) (bytes : Bytes p) (g : AirIn s.air) (q : s.air.radio ≡ S.free → s.air.waiting ≡ []) where
    bounded-waiting : open# d.air < 16 → length s.air.waiting < 16
    bounded-waiting l = omega (arith, same-open h.air, length-append (held s.air.radio) (tags_of s.air.waiting), length-tags s.air.waiting)

    -- what is answered at once
    at-once : (rx-start rx-stop get-info : Bool)
        → Agrees (cond rx-start (turned true t d)
        (cond rx-stop (turned false t d)
        (cond get-info (does d (seen (ok_info sx1262 t) ∷ []) Nothing)
        (does d (seen (ok t) ∷ []) Nothing)))) run m ps
        (cond rx-start (E.turned true t s)
        (cond rx-stop (E.turned false t s)
        (cond get-info (E.writes_first (ok_info sx1262 t) S.nothing s)
        (E.writes_first (ok t) S.nothing s))))
    at-once true v w = turns true t
    at-once false true w = turns false t
    at-once false false true = answers (ok_info sx1262 t)
    at-once false false false = answers (ok t)

    obeys : error_for sx1262 (unconfigured d.mode) (open# d.air) kind p ≡ none → Ruling (on_command kind t p m d) (E.on_command sx1262 kind t p s)
    unfolding at_once
    obeys e = go (eqb kind TX) refl (eqb kind SET_CONFIG) refl (at-once (eqb kind RX_START) (eqb kind RX_STOP) (eqb kind GET_INFO))
      where
        go : (tx : Bool) → eqb kind TX ≡ tx → (set : Bool) → eqb kind SET_CONFIG ≡ set → {x : Done} {o : E.Done} → Agrees x run m ps o
            → Ruling (cond tx (on_tx t p m d) (cond set (on_set t p m d) (command_gives x m)))
            (cond tx (E.on_tx (tx_of t p) s.air.radio s) (cond set (E.on_set (setting_of t p) s.air.radio (S.with_inbox (E.ring_emptied s.inbox) s)) o))
        go true a set b y =
            let k : TxIn sx1262 (unconfigured d.mode) (open# d.air) p =
            none-tx sx1262 (unconfigured d.mode) (open# d.air) p
            (subst (λ (i : ℕ). error_for sx1262 (unconfigured d.mode) (open# d.air) i p ≡ none) (eqb-true kind TX a) e) in
            takes t p tag.1 k.least k.most (bounded-waiting k.room) q
        go false a true b y =
            set-up t p tag.1 bytes
            (none-set sx1262 (unconfigured d.mode) (open# d.air) p
            (subst (λ (i : ℕ). error_for sx1262 (unconfigured d.mode) (open# d.air) i p ≡ none) (eqb-true kind SET_CONFIG b) e)) g
        go false a false b y = y

    same-error : error_for sx1262 (unconfigured d.mode) (open# d.air) kind p ≡ error_of sx1262 s kind p
    unfolding error_of
    same-error =
        ap₂ (λ (v : Bool) (n : ℕ). error_for sx1262 v n kind p) (ap unconfigured h.mode ∙ same-unconfigured s.config) (same-open h.air)

    pub judges : Ruling (dispatched kind t p m d) (E.unless (error_of sx1262 s kind p) sx1262 kind t p s)
    unfolding dispatched
    judges =
        subst (λ (o : Option ℕ). Ruling (unless (error_for sx1262 (unconfigured d.mode) (open# d.air) kind p) kind t p m d) (E.unless o sx1262 kind t p s))
        same-error
        (go (error_for sx1262 (unconfigured d.mode) (open# d.air) kind p) refl)
      where
        go : (o : Option ℕ) → error_for sx1262 (unconfigured d.mode) (open# d.air) kind p ≡ o
            → Ruling (unless o kind t p m d) (E.unless o sx1262 kind t p s)
        go (some code) e = answers (err code t)
        go none e = obeys e
