-- Packets, in code and in the definition.
-- The idea: a packet is stored in the slot past the last, in a full ring the slot of the oldest; what a request delivers is the slot of the oldest, with the
-- drop count stored inside it.
-- Assumes nothing.
use mathlib.Core.Path.{◌≡◌, refl, sym, ap, ap₂, subst, ◌∙◌}
use mathlib.Core.Bool.{Bool, true, false, cond}
use mathlib.Core.List.{List, [], ◌∷◌, ◌++◌}
use Prim.Native.Nat.{ℕ, zero, suc, ◌+◌, ◌*◌, ◌%◌, ◌≤◌, ◌<◌, min}
use native.Mathlib.Omega.{arith}
use native.Mathlib.Nat.{add-zero}
use borrow.Author.Tests.{ltb-true, ltb-false}
use lib.Dec.{ltb}
use lib.ListN.{length, take, drop, get_or, length-append, length-take, length-drop}
use lib.Seq.{drop-drop, get_or-drop, take_at}
use Rattle.buffer.specs.Lay.{lay}
use Rattle.buffer.proofs.Laws.{length-lay}
use Rattle.scalar.specs.Scalars.{le}
use Rattle.kind.specs.Kinds.{RX}
use Rattle.rx.specs.Rx.{rx_bytes}
use Rattle.answer.specs.Answers.{answer_bytes}
use Rattle.device.specs.State.{Packet, State}
use Rattle.device.specs.State as S
use Rattle.device.specs.Messages.{frame, rx, rx_value}
use Rattle.device.specs.Events.{cut, drops_max}
use Rattle.device.specs.Events as E
use Rattle.control.specs.declared.Radio.{Radio}
use Rattle.control.specs.declared.Device.{Device}
use Rattle.control.specs.Control.{free?, inbox}
use Rattle.inbox.specs.Packets.{held_bytes, packet_kept, counted, rx_payload_at, more, on_packet, on_request}
use Rattle.refinement.proofs.Slots.{At, inside, wheel64, ring-push, ring-kept}
use Rattle.refinement.proofs.Stands.{RadioAs, as-free, as-listening, as-on_air, as-orphan, as-configuring, Packets}
use Rattle.refinement.proofs.Stands.{InboxAs, Stands, Agrees, quietly, Answered, takes, refuses, with-inbox}

pub same-free : {m : List ℕ} {r : Radio} {q : S.Radio} → RadioAs m r q → free? r ≡ S.free? q
same-free as-free = refl
same-free as-listening = refl
same-free as-on_air = refl
same-free as-orphan = refl
same-free (as-configuring x) = refl

-- ---- a slot

-- what stands in a slot whose drop count is n
abbrev counts : Packet → ℕ → List ℕ
counts p n = length p.bytes ∷ (rx_bytes (rx_value p n) ++ p.bytes)

length-rx : (p : Packet) (n : ℕ) → length (rx_bytes (rx_value p n) ++ p.bytes) ≡ 20 + length p.bytes
unfolding rx_bytes lay le
length-rx p n = omega arith

-- the drop count stands between the other fields
fields : Packet → List ℕ
fields p = length p.bytes ∷ take 17 (rx_bytes (rx_value p 0))

parts : (p : Packet) (n : ℕ) → counts p n ≡ fields p ++ (le 2 n ++ (0 ∷ p.bytes))
unfolding fields rx_bytes lay le
parts p n = refl

length_fields : (p : Packet) → length (fields p) ≡ 18
unfolding fields rx_bytes lay le
length_fields p = refl

-- a count is stored
count-in : (m : List ℕ) (at n : ℕ) (p : Packet) → At m at (held_bytes p) → at + 18 ≤ length m → At (lay (at + 18) (le 2 n) m) at (counts p n)
unfolding le
count-in m at n p s h =
    subst (λ (bs : List ℕ). At (lay (at + 18) (le 2 n) m) at bs) (sym (parts p n))
    (subst (λ (k : ℕ). At (lay (at + k) (le 2 n) m) at (fields p ++ (le 2 n ++ (0 ∷ p.bytes)))) (length_fields p)
    (inside (fields p) (le 2 0) (0 ∷ p.bytes) (le 2 n) (subst (λ (bs : List ℕ). At m at bs) (parts p 0) s) refl
    (rw (length_fields p) h)))

-- and delivered
delivers : (m : List ℕ) (k n : ℕ) (p : Packet) → At m (k * 276) (counts p n) → rx_payload_at m k ≡ rx_bytes (rx_value p n) ++ p.bytes
delivers m k n p s =
    let at = k * 276 in
    let e : get_or m at 0 ≡ length p.bytes =
    ap (λ (i : ℕ). get_or m i 0) (sym (add-zero at)) ∙ sym (get_or-drop at m 0 0) ∙ ap (λ (l : List ℕ). get_or l 0 0) s.stands in
    ap₂ (λ (i : ℕ) (l : List ℕ). take (20 + i) l) e (sym (drop-drop 1 at m) ∙ ap (drop 1) s.stands)
    ∙ take_at (rx_bytes (rx_value p n) ++ p.bytes) s.rest (20 + length p.bytes) (length-rx p n)

-- ---- the two events

module _ {d : Device} {run m ps : List ℕ} {s : State} (h : Stands d run m ps s) where
  abbrev i : InboxAs d.inbox ps s.inbox
  i = h.inbox

  module _ (p : Packet) where
    abbrev slot : ℕ
    slot = (d.inbox.first + d.inbox.held) % 64

    short : length (held_bytes (cut p)) ≤ 276
    short = omega (arith, length-rx (cut p) 0, length-take 255 p.bytes)

    fits : slot * 276 + length (held_bytes (cut p)) ≤ length ps
    fits = omega (arith, short, i.long)

    length-kept : length (packet_kept ps slot (cut p)) ≡ 17664
    unfolding packet_kept
    length-kept = length-lay (slot * 276) (held_bytes (cut p)) ps fits ∙ i.long

    -- in the slot past the last
    push : length s.inbox.ring < 64 → Packets (packet_kept ps slot (cut p)) d.inbox.first (s.inbox.ring ++ (cut p ∷ []))
    unfolding packet_kept
    push l =
        ring-push 276 64 held_bytes wheel64 ps (cut p) slot short fits d.inbox.first s.inbox.ring i.first l
        (ap (λ (n : ℕ). (d.inbox.first + n) % 64) i.count) i.ring

    -- or, of 64, in the slot of the oldest
    turn : (rs : List Packet) → length rs ≡ 64 → Packets ps d.inbox.first rs → slot ≡ d.inbox.first
        → Packets (packet_kept ps slot (cut p)) ((d.inbox.first % 64 + 1) % 64) (drop 1 rs ++ (cut p ∷ []))
    unfolding packet_kept
    turn [] l r e = absurd (omega arith)
    turn (x ∷ rs) l r e =
        let k : d.inbox.first % 64 ≡ d.inbox.first = omega (arith, i.first) in
        let n : length rs ≡ 63 = omega arith in
        ring-push 276 64 held_bytes wheel64 ps (cut p) slot short fits ((d.inbox.first % 64 + 1) % 64) rs (omega arith) (omega arith)
        (e ∙ rw n (omega (arith, i.first)))
        (subst (λ (j : ℕ). Packets ps ((j + 1) % 64) rs) (sym k) r.1)

    keeps-one : InboxAs (more d.inbox) (packet_kept ps slot (cut p)) (E.kept (cut p) s.inbox)
    keeps-one = go (ltb d.inbox.held 64) (ltb (length s.inbox.ring) 64) refl refl
      where
        go : (u v : Bool) → ltb d.inbox.held 64 ≡ u → ltb (length s.inbox.ring) 64 ≡ v
            → InboxAs (cond u (inbox d.inbox.receiving d.inbox.first (d.inbox.held + 1) d.inbox.drops)
            (inbox d.inbox.receiving ((d.inbox.first % 64 + 1) % 64) d.inbox.held (min (suc d.inbox.drops) drops_max)))
            (packet_kept ps slot (cut p))
            (cond v (S.inbox s.inbox.receiving (s.inbox.ring ++ (cut p ∷ [])) s.inbox.drops)
            (S.inbox s.inbox.receiving (drop 1 s.inbox.ring ++ (cut p ∷ [])) (min (suc s.inbox.drops) drops_max)))
        go true true e f =
            let l = ltb-true (length s.inbox.ring) 64 f in
            record {
              receiving = i.receiving;
              drops = i.drops;
              first = i.first;
              count = rw length-append (omega (arith, i.count));
              bounded = rw length-append (omega arith);
              ring = push l;
              long = length-kept;
            }
        go false false e f =
            let l = ltb-false (length s.inbox.ring) 64 f in
            let n : length (drop 1 s.inbox.ring ++ (cut p ∷ [])) ≡ 64 = rw (length-append, length-drop) (omega (arith, i.bounded)) in
            record {
              receiving = i.receiving;
              drops = ap (λ (k : ℕ). min (suc k) drops_max) i.drops;
              first = omega arith;
              count = omega (arith, i.count, i.bounded);
              bounded = omega arith;
              ring = turn s.inbox.ring (omega (arith, i.bounded)) i.ring (omega (arith, i.count, i.bounded, i.first));
              long = length-kept;
            }
        go true false e f = absurd (omega (arith, ltb-true d.inbox.held 64 e, ltb-false (length s.inbox.ring) 64 f, i.count))
        go false true e f = absurd (omega (arith, ltb-false d.inbox.held 64 e, ltb-true (length s.inbox.ring) 64 f, i.count))

    pub on-packet : (v : Bool) → Answered (on_packet v p ps d).gives run m (on_packet v p ps d).packets (E.on_packet v p s)
    on-packet true = takes (quietly (with-inbox h keeps-one))
    on-packet false = refuses h 3

  length-counted : (k : ℕ) → k * 276 + 20 ≤ length ps → length (counted ps k d.inbox.drops) ≡ 17664
  unfolding counted le
  length-counted k z = length-lay (k * 276 + 18) (le 2 d.inbox.drops) ps (omega arith) ∙ i.long

  counted-in : (k : ℕ) (x : Packet) → At ps (k * 276) (held_bytes x) → k * 276 + 20 ≤ length ps
      → At (counted ps k d.inbox.drops) (k * 276) (counts x d.inbox.drops)
  unfolding counted
  counted-in k x a z = count-in ps (k * 276) d.inbox.drops x a (omega arith)

  left : (k : ℕ) (rs : List Packet) → k < 64 → length rs ≤ 63 → Packets ps ((k + 1) % 64) rs → Packets (counted ps k d.inbox.drops) ((k + 1) % 64) rs
  unfolding counted le
  left k rs a b r =
      ring-kept 276 64 held_bytes wheel64 ps k (k * 276 + 18) (le 2 d.inbox.drops) (omega arith) (omega arith) (omega (arith, i.long))
      ((k + 1) % 64) 63 rs (omega arith) b (omega arith) (omega arith) r

  answers : (x : Packet) → rx_bytes (rx_value x d.inbox.drops) ++ x.bytes ≡ answer_bytes (rx x s.inbox.drops).answer x.bytes
  unfolding answer_bytes
  answers x = ap (λ (n : ℕ). rx_bytes (rx_value x n) ++ x.bytes) i.drops

  pub on-request : Agrees (on_request d.inbox.held ps d).gives run m (on_request d.inbox.held ps d).packets (E.on_request s.inbox.ring s)
  on-request = go d.inbox.held s.inbox.ring i.count i.ring i.bounded
    where
      go : (n : ℕ) (rs : List Packet) → n ≡ length rs → Packets ps d.inbox.first rs → length rs ≤ 64
          → Agrees (on_request n ps d).gives run m (on_request n ps d).packets (E.on_request rs s)
      go zero [] l r f = quietly h
      go zero (x ∷ rs) l r f = absurd (omega arith)
      go (suc n) [] l r f = absurd (omega arith)
      go (suc n) (x ∷ rs) l r f =
          let k = d.inbox.first % 64 in
          let e : d.inbox.first ≡ k = omega (arith, i.first) in
          let z : k * 276 + 20 ≤ length ps = omega (arith, i.long) in
          let c = counted-in k x (subst (λ (j : ℕ). At ps (j * 276) (held_bytes x)) e r.0.at) z in
          record {
            next =
                with-inbox h record {
                  receiving = i.receiving;
                  drops = refl;
                  first = omega arith;
                  count = omega arith;
                  bounded = omega arith;
                  ring = left k rs (omega arith) (omega arith) (subst (λ (j : ℕ). Packets ps ((j + 1) % 64) rs) e r.1);
                  long = length-counted k z;
                };
            writes = ap (λ (bs : List ℕ). frame RX 0 bs ∷ []) (delivers (counted ps k d.inbox.drops) k d.inbox.drops x c ∙ answers x);
            order = refl;
          }
