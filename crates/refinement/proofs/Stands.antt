-- When a state of the code, with its memories, stands for a state of the definition; and what is read off a slot then.
-- Assumes nothing.
use mathlib.Core.Path.{◌≡◌, refl, sym, ap, ap₂, ◌∙◌}
use mathlib.Core.Bool.{Bool, true, false, cond}
use mathlib.Core.List.{List, [], ◌∷◌, ◌++◌, map}
use mathlib.Core.Option.{Option, none, some}
use Prim.Native.Nat.{ℕ, suc, ◌+◌, ◌*◌, ◌≤◌, ◌<◌}
use native.Mathlib.Omega.{arith}
use native.Mathlib.Nat.{add-zero}
use lib.Dec.{eqb}
use lib.ListN.{length, take, drop, get_or, get_or-append}
use lib.Seq.{drop-nil, drop-drop, get_or-drop, take-append_seam}
use Rattle.buffer.specs.Lay.{lay}
use Rattle.scalar.specs.Scalars.{le, number, column, get}
use Rattle.scalar.proofs.Laws.{number-le, get-byte}
use Rattle.modulation.specs.Lora.{lora_of}
use Rattle.modulation.specs.Fsk.{fsk_of}
use Rattle.modulation.specs.declared.Modulation.{Modulation}
use Rattle.modulation.specs.declared.Modulation.TheVariants as M
use Rattle.modulation.specs.Modulations.{LORA, modulation_id, config_of, config_bytes}
use Rattle.answer.specs.Answers.{answer_bytes, configured_bytes}
use Rattle.board.specs.Ldro.{slow, ldro}
use Rattle.device.specs.State.{Config, Setting, Tx, Packet, State}
use Rattle.device.specs.State as S
use Rattle.device.specs.Messages.{seen}
use Rattle.device.specs.Messages as Msg
use Rattle.device.specs.Frames as F
use Rattle.device.specs.Events as E
use Rattle.control.specs.declared.Mode.{Mode}
use Rattle.control.specs.declared.Mode.TheVariants.{Unconfigured, Lora, Fsk}
use Rattle.control.specs.declared.Radio.{Radio}
use Rattle.control.specs.declared.Radio.TheVariants.{Free, Listening, OnAir, Orphan, Configuring}
use Rattle.control.specs.declared.Link.{Link}
use Rattle.control.specs.declared.Air.{Air}
use Rattle.control.specs.declared.Inbox.{Inbox}
use Rattle.control.specs.declared.Device.{Device}
use Rattle.control.specs.declared.Order.TheVariants.{Nothing, Configure}
use Rattle.control.specs.Control.{link, air, inbox, with_link, with_air, with_inbox, with_receiving, unconfigured, Done, does, Out, taken, refused}
use Rattle.slot.specs.Slots.{slot_size, setting, slot_bytes, len_at, tag_at, head_at, payload_at}
use Rattle.queue.specs.Queue.{listens, ldro_at}
use Rattle.inbox.specs.Packets as P
use Rattle.outcome.specs.Outcomes.{mode_of, ok_configured}
use Rattle.refinement.specs.Seen.{config_in, order_in}
use Rattle.refinement.proofs.Slots.{At, Slot, Ring}

-- ---- the parts

-- the run's bytes, or that it is too long
pub data RunAs (run : List ℕ) : ℕ → List ℕ → Type 0 where
  as-run : {n : ℕ} {rs : List ℕ} → n ≤ 282 → rs ≡ take n run → RunAs run n rs
  as_long : {n : ℕ} {rs : List ℕ} → n ≡ 283 → 282 < length rs → RunAs run n rs

pub record LinkAs (l : Link) (run : List ℕ) (k : S.Link) : Type 0 where
  pub session : l.session ≡ k.session
  pub ticks : l.ticks ≡ k.ticks
  pub bounded : k.ticks ≤ 999
  pub bytes : RunAs run l.run k.run
  pub long : length run ≡ 282

-- of the configuration only the modulation is kept
abbrev pub mode_in : Modulation → Mode
mode_in (M.Lora m) = Lora
mode_in (M.Fsk m) = Fsk

abbrev pub mode_for : Option Config → Mode
mode_for none = Unconfigured
mode_for (some c) = mode_in c.modulation

-- the SET_CONFIG in its slot
pub record SetAt (m : List ℕ) (c : Setting) : Type 0 where
  pub payload : List ℕ
  pub at : At m (setting * slot_size) (slot_bytes c.tag payload)
  pub small : c.tag < 65536
  pub config : config_in payload ≡ c.config
  pub same : config_bytes c.config.modulation c.config.word ≡ payload
  pub long : 16 ≤ length payload

pub data RadioAs (m : List ℕ) : Radio → S.Radio → Type 0 where
  as-free : RadioAs m Free S.free
  as-listening : {t : ℕ} → RadioAs m (Listening t) (S.listening t)
  as-on_air : {t : ℕ} → RadioAs m (OnAir t) (S.on_air t)
  as-orphan : RadioAs m Orphan S.orphan
  as-configuring : {c : Setting} → SetAt m c → RadioAs m Configuring (S.configuring c)

pub data PendingAs (m : List ℕ) : Bool → Option Setting → Type 0 where
  as_none : PendingAs m false none
  as_some : {c : Setting} → SetAt m c → PendingAs m true (some c)

-- what stands in a slot for a TX: its packet's length, its tag, its flags and its packet
abbrev pub tx_slot : Tx → List ℕ
tx_slot x = length x.packet ∷ (le 2 x.tag ++ (x.flags ∷ x.packet))

abbrev pub TxAt : List ℕ → ℕ → Tx → Type 0
TxAt m k x = Slot 259 tx_slot m k x

abbrev pub Queue : List ℕ → ℕ → List Tx → Type 0
Queue m k xs = Ring 259 16 tx_slot m k xs

pub record AirAs (a : Air) (m : List ℕ) (b : S.Air) : Type 0 where
  pub radio : RadioAs m a.radio b.radio
  pub pending : PendingAs m a.pending b.pending
  pub first : a.first < 16
  pub count : a.waiting ≡ length b.waiting
  pub ring : Queue m a.first b.waiting
  pub long : length m ≡ 4403

abbrev pub Packets : List ℕ → ℕ → List Packet → Type 0
Packets m k ps = Ring 276 64 P.held_bytes m k ps

pub record InboxAs (i : Inbox) (m : List ℕ) (j : S.Inbox) : Type 0 where
  pub receiving : i.receiving ≡ j.receiving
  pub drops : i.drops ≡ j.drops
  pub first : i.first < 64
  pub count : i.held ≡ length j.ring
  pub bounded : length j.ring ≤ 64
  pub ring : Packets m i.first j.ring
  pub long : length m ≡ 17664

-- ---- the whole

pub record Stands (d : Device) (run m p : List ℕ) (s : State) : Type 0 where
  pub link : LinkAs d.link run s.link
  pub mode : d.mode ≡ mode_for s.config
  pub air : AirAs d.air m s.air
  pub inbox : InboxAs d.inbox p s.inbox

-- what an event does in code that is taken, with the memories after it, is what it does in the definition
pub record Agrees (x : Done) (run m p : List ℕ) (o : E.Done) : Type 0 where
  pub next : Stands x.next run m p o.next
  pub writes : x.writes ≡ map seen o.written
  pub order : order_in m x.order ≡ o.order

-- nothing is said or ordered
pub quietly : {d : Device} {run m p : List ℕ} {s : State} → Stands d run m p s → Agrees (does d [] Nothing) run m p (E.does s [] S.nothing)
quietly h = record { next = h; writes = refl; order = refl }

-- any event: the number too
pub record Answered (x : Out) (run m p : List ℕ) (o : E.Out) : Type 0 where
  pub next : Stands x.next run m p o.next
  pub number : x.number ≡ o.number
  pub writes : x.writes ≡ map seen o.written
  pub order : order_in m x.order ≡ o.order

pub takes : {x : Done} {run m p : List ℕ} {o : E.Done} → Agrees x run m p o → Answered (taken x) run m p (E.taken o)
takes a = record { next = a.next; number = refl; writes = a.writes; order = a.order }

pub refuses : {d : Device} {run m p : List ℕ} {s : State} → Stands d run m p s → (n : ℕ) → Answered (refused n d) run m p (E.refused n s)
refuses h n = record { next = h; number = refl; writes = refl; order = refl }

-- ---- parts with nothing in them, and a state with one part new

pub empty-link : {run : List ℕ} (v : Bool) (n : ℕ) → n ≤ 999 → length run ≡ 282 → LinkAs (link v n 0) run (S.link v n [])
empty-link v n h l = record { session = refl; ticks = refl; bounded = h; bytes = as-run {n = 0} (omega arith) refl; long = l }

pub empty-air : {m : List ℕ} {r : Radio} {q : S.Radio} (k : ℕ) → RadioAs m r q → k < 16 → length m ≡ 4403 → AirAs (air r false k 0) m (S.air q [] none)
empty-air k x h l = record { radio = x; pending = as_none; first = h; count = refl; ring = tt; long = l }

pub empty-inbox : {p : List ℕ} {v w : Bool} (k : ℕ) → v ≡ w → k < 64 → length p ≡ 17664 → InboxAs (inbox v k 0 0) p (S.inbox w [] 0)
empty-inbox k e h l = record { receiving = e; drops = refl; first = h; count = refl; bounded = omega arith; ring = tt; long = l }

pub with-receiving : {i : Inbox} {p : List ℕ} {j : S.Inbox} (on : Bool) → InboxAs i p j → InboxAs (with_receiving i on) p (S.with_receiving on j)
with-receiving on h =
    record { receiving = refl; drops = h.drops; first = h.first; count = h.count; bounded = h.bounded; ring = h.ring; long = h.long }

module _ {d : Device} {run m p : List ℕ} {s : State} (h : Stands d run m p s) where
  pub with-link : {run' : List ℕ} {a : Link} {b : S.Link} → LinkAs a run' b → Stands (with_link d a) run' m p (S.with_link b s)
  with-link x = record { link = x; mode = h.mode; air = h.air; inbox = h.inbox }

  pub with-air : {m' : List ℕ} {a : Air} {b : S.Air} → AirAs a m' b → Stands (with_air d a) run m' p (S.with_air b s)
  with-air x = record { link = h.link; mode = h.mode; air = x; inbox = h.inbox }

  pub with-inbox : {p' : List ℕ} {a : Inbox} {b : S.Inbox} → InboxAs a p' b → Stands (with_inbox d a) run m p' (S.with_inbox b s)
  with-inbox x = record { link = h.link; mode = h.mode; air = h.air; inbox = x }

-- ---- the mode

pub same-unconfigured : (c : Option Config) → unconfigured (mode_for c) ≡ F.unconfigured c
same-unconfigured none = refl
same-unconfigured (some c) = go c.modulation
  where
    go : (k : Modulation) → unconfigured (mode_in k) ≡ false
    go (M.Lora k) = refl
    go (M.Fsk k) = refl

pub same-listens : (c : Option Config) (f : ℕ) → listens (mode_for c) f ≡ E.listens c f
unfolding E.listens
same-listens none f = refl
same-listens (some c) f = go c.modulation
  where
    go : (k : Modulation) → listens (mode_in k) f ≡ E.listens_in k f
    go (M.Lora k) = refl
    go (M.Fsk k) = refl

-- ---- what is read off a slot: a length, a tag and a payload

module _ {m : List ℕ} {at a : ℕ} (t : ℕ) (p : List ℕ) (s : At m at (a ∷ (le 2 t ++ p))) where
  from : (n : ℕ) → drop (at + n) m ≡ drop n (a ∷ (le 2 t ++ p) ++ s.rest)
  from n = sym (drop-drop n at m) ∙ ap (drop n) s.stands

  pub read-len : get_or m at 0 ≡ a
  read-len = ap (λ (i : ℕ). get_or m i 0) (sym (add-zero at)) ∙ sym (get_or-drop at m 0 0) ∙ ap (λ (l : List ℕ). get_or l 0 0) s.stands

  pub read-tag : t < 65536 → get (column (at + 1) 2) m ≡ t
  unfolding le
  read-tag h = ap (λ (l : List ℕ). number (take 2 l)) (from 1) ∙ number-le 2 t h

  pub read_byte : (n : ℕ) → get_or m (at + suc (suc (suc n))) 0 ≡ get_or (p ++ s.rest) n 0
  unfolding le
  read_byte n = sym (get_or-drop at m (suc (suc (suc n))) 0) ∙ ap (λ (l : List ℕ). get_or l (suc (suc (suc n))) 0) s.stands

  pub read-payload : take (length p) (drop (at + 3) m) ≡ p
  unfolding le
  read-payload = ap (take (length p)) (from 3) ∙ take-append_seam p s.rest

-- a TX in its slot
module _ {m : List ℕ} {k : ℕ} {x : Tx} (s : TxAt m k x) where
  pub tx-len : len_at m k ≡ length x.packet
  tx-len = read-len x.tag (x.flags ∷ x.packet) s.at

  pub tx-tag : x.tag < 65536 → tag_at m k ≡ x.tag
  tx-tag h = read-tag x.tag (x.flags ∷ x.packet) s.at h

  pub tx-flags : head_at m k ≡ x.flags
  tx-flags = read_byte x.tag (x.flags ∷ x.packet) s.at 0

  pub tx-packet : take (len_at m k) (drop (k * slot_size + 4) m) ≡ x.packet
  unfolding le
  tx-packet = rw tx-len (ap (take (length x.packet)) (from x.tag (x.flags ∷ x.packet) s.at 4) ∙ take-append_seam x.packet s.at.rest)

drop-suc : (n : ℕ) (l : List ℕ) → drop (suc n) l ≡ drop n (drop 1 l)
drop-suc n [] = sym (drop-nil n)
drop-suc n (x ∷ l) = refl

-- the SET_CONFIG in its slot
module _ {m : List ℕ} {c : Setting} (s : SetAt m c) where
  pub set-tag : tag_at m setting ≡ c.tag
  set-tag = read-tag c.tag s.payload s.at s.small

  pub set-payload : payload_at m setting ≡ s.payload
  set-payload =
      let e : len_at m setting + 1 ≡ length s.payload = omega (arith, read-len c.tag s.payload s.at, s.long) in
      rw e (read-payload c.tag s.payload s.at)

  set-byte : (n : ℕ) → n < 16 → get_or m (setting * slot_size + suc (suc (suc n))) 0 ≡ get (column n 1) s.payload
  set-byte n h =
      let l : n < length s.payload = omega (arith, s.long) in
      read_byte c.tag s.payload s.at n ∙ get_or-append s.payload s.at.rest 0 n l ∙ get-byte n s.payload l

  set-param : (n : ℕ) → n < 15 → get_or m (setting * slot_size + suc (suc (suc (suc n)))) 0 ≡ get (column n 1) (drop 1 s.payload)
  set-param n h = set-byte (suc n) (omega arith) ∙ ap (λ (l : List ℕ). number (take 1 l)) (drop-suc n s.payload)

  modulation-same : config_of s.payload ≡ c.config.modulation
  modulation-same = ap (λ (k : Config). k.modulation) s.config

  pub set-ldro : ldro_at m ≡ ldro c.config.modulation
  unfolding ldro_at ldro config_of lora_of
  set-ldro =
      rw (set-byte 0 (omega arith), set-param 4 (omega arith), set-param 5 (omega arith), ← modulation-same)
      (go (eqb (get modulation_id s.payload) LORA))
    where
      go : (v : Bool)
          → cond v (slow (get (column 4 1) (drop 1 s.payload)) (get (column 5 1) (drop 1 s.payload))) false
          ≡ ldro (cond v (M.Lora (lora_of (drop 1 s.payload))) (M.Fsk (fsk_of (drop 1 s.payload))))
      go true = refl
      go false = refl

  pub set-mode : mode_of (head_at m setting) ≡ mode_in c.config.modulation
  unfolding config_of
  set-mode = rw (set-byte 0 (omega arith), ← modulation-same) (go (eqb (get modulation_id s.payload) LORA))
    where
      go : (v : Bool) → cond v Lora Fsk ≡ mode_in (cond v (M.Lora (lora_of (drop 1 s.payload))) (M.Fsk (fsk_of (drop 1 s.payload))))
      go true = refl
      go false = refl

  pub set-order : order_in m (Configure (setting * slot_size + 3) (len_at m setting + 1) (ldro_at m)) ≡ S.configure c.config (ldro c.config.modulation)
  set-order = ap₂ S.configure (ap config_in set-payload ∙ s.config) set-ldro

  pub set-ok : ok_configured m ≡ seen (Msg.ok_configured c)
  unfolding answer_bytes configured_bytes lay le
  set-ok = rw (set-tag, set-payload, s.same)
