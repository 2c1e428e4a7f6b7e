-- Laws of frames in lent output: one after another is all of them together, how long each may be, and a frame that has room is written.
-- The idea of the first: what is laid after some bytes is laid together with them, by going through the memory up to where they begin.
-- Assumes nothing.
use mathlib.Core.Path.{◌≡◌, refl, sym, ap, ◌∙◌}
use mathlib.Core.List.{List, [], ◌∷◌, ◌++◌, map, append-nil, append_assoc}
use Prim.Native.Nat.{ℕ, zero, suc, ◌+◌, ◌-◌, ◌≤◌}
use native.Mathlib.Nat.{zero-add, suc-add}
use native.Mathlib.Omega.{arith}
use borrow.Author.Tests.{le-ltb}
use lib.ListN.{length, take, drop, length-append, length-drop, drop_of_length-le}
use lib.Seq.{take_all, take-append_seam, drop-append-add, drop-drop, drop-nil}
use Rattle.buffer.specs.Lay.{lay}
use Rattle.buffer.proofs.Laws.{lay-none, the_rest, no_more}
use Rattle.cobs.specs.Encoding.{worst}
use Rattle.cobs.specs.Answers.{body_max}
use Rattle.scalar.specs.Scalars.{le}
use Rattle.frame.specs.Body.{body, overhead, payload_max}
use Rattle.frame.specs.Writing.{written_result, frame_answer, frame_left}
use Rattle.frame.specs.declared.Written.{Written}
use Rattle.frame.specs.declared.Written.TheVariants as W
use Rattle.frame.proofs.Laws.{length-body}
use Rattle.frame.proofs.Same.{written_same}
use Rattle.frame.proofs.Stream.{length-frame}
use Rattle.answer.specs.Answers.{answer_bytes, tx_done_bytes}
use Rattle.device.specs.Messages.{Message, Frame, frame, seen, ok, err, tx_done, message_bytes, messages_bytes}
use Rattle.emit.specs.Emitting.{bytes_of, frames_bytes, Writes}

-- ---- one piece after another

-- wherever they are laid, past the end too
pub lay-after : (at : ℕ) (a b d : List ℕ) → lay (at + length a) b (lay at a d) ≡ lay at (a ++ b) d
unfolding lay
lay-after zero a b d = simp (zero-add, take-append_seam, drop-append-add, drop-drop, length-append, append_assoc)
lay-after (suc n) a b [] =
    let t = take_all (suc n + length a) a (omega arith) in
    let r = drop_of_length-le a {i = suc n + length a + length b} (omega arith) in
    simp (drop-nil, append-nil, t, r)
lay-after (suc n) a b (x ∷ d) = simp suc-add (ap (λ (bs : List ℕ). x ∷ bs) (lay-after n a b d))

-- ---- several frames

pub sends-one : (f : Frame) → frames_bytes (f ∷ []) ≡ bytes_of f
unfolding frames_bytes
sends-one f = append-nil (bytes_of f)

pub sends-append : (fs gs : List Frame) → frames_bytes (fs ++ gs) ≡ frames_bytes fs ++ frames_bytes gs
unfolding frames_bytes
sends-append [] gs = refl
sends-append (f ∷ fs) gs = ap (λ (bs : List ℕ). bytes_of f ++ bs) (sends-append fs gs) ∙ sym (append_assoc (bytes_of f) (frames_bytes fs) (frames_bytes gs))

-- the bytes of messages are those of the frames that are seen of them
pub sends-seen : (ms : List Message) → frames_bytes (map seen ms) ≡ messages_bytes ms
unfolding frames_bytes bytes_of messages_bytes message_bytes
sends-seen [] = refl
sends-seen (m ∷ ms) = ap (λ (bs : List ℕ). message_bytes m ++ bs) (sends-seen ms)

-- fs stand in the output o' from index `at` on and end at r; the rest of it is as it was in o
pub record Sent (fs : List Frame) (o : List ℕ) (at r : ℕ) (o' : List ℕ) : Type 0 where
  pub ends : r ≡ at + length (frames_bytes fs)
  pub lays : o' ≡ lay at (frames_bytes fs) o

pub sent-none : (o : List ℕ) (at : ℕ) → Sent [] o at at o
unfolding frames_bytes
sent-none o at = record { ends = omega arith; lays = sym (lay-none at o) }

pub sent-one : {f : Frame} {o o' : List ℕ} {at r : ℕ} → Writes f o at r o' → Sent (f ∷ []) o at r o'
sent-one {f} s = record { ends = rw sends-one s.ends; lays = rw sends-one s.lays }

pub sent-after : {fs gs : List Frame} {o o1 o2 : List ℕ} {at w r : ℕ} → Sent fs o at w o1 → Sent gs o1 w r o2 → Sent (fs ++ gs) o at r o2
sent-after {fs} {gs} {o} {at = at} s t =
    record {
      ends = rw (sends-append, length-append) (omega (arith, s.ends, t.ends));
      lays = rw sends-append (t.lays ∙ rw (s.lays, s.ends) (lay-after at (frames_bytes fs) (frames_bytes gs) o));
    }

-- ---- how long a frame may be

pub length-bytes : (k t : ℕ) (p : List ℕ) → length (bytes_of (frame k t p)) ≤ worst (length p + overhead) + 1
unfolding bytes_of
length-bytes k t p = length-frame k t p

pub length-ok : (t : ℕ) → length (bytes_of (seen (ok t))) ≤ 7
unfolding answer_bytes
length-ok t = length-bytes _ t []

pub length-err : (code t : ℕ) → length (bytes_of (seen (err code t))) ≤ 9
unfolding answer_bytes lay le
length-err code t = length-bytes _ t _

pub length-done : (r time t : ℕ) → length (bytes_of (seen (tx_done r time t))) ≤ 12
unfolding answer_bytes tx_done_bytes lay le
length-done r time t = length-bytes _ t _

-- ---- a frame that has room

-- it is written to the part of the output d from index `at` on, which then holds m
module _ (k t : ℕ) (p : List ℕ) (at : ℕ) (d : List ℕ) (small : length p ≤ payload_max) (room : at + (worst (length p + overhead) + 1) ≤ length d) where
  abbrev part : List ℕ
  part = take (length d - at) (drop at d)

  abbrev past : List ℕ
  past = drop (length d - at) (drop at d)

  abbrev bytes : List ℕ
  bytes = bytes_of (frame k t p)

  whole : part ≡ drop at d
  whole = the_rest d at (length d - at) (omega arith)

  none-past : past ≡ []
  none-past = no_more (drop at d) (length d - at) (rw length-drop (omega arith))

  -- the part laid is the output laid
  lay-part : take at d ++ (lay 0 bytes part ++ past) ≡ lay at bytes d
  unfolding lay
  lay-part = rw (none-past, whole) (simp (append-nil, zero-add, drop-drop))

  taken : (frame_answer (body k t p) (length part) ≡ W.Done (length bytes)) × (frame_left (body k t p) part ≡ lay 0 bytes part)
  unfolding frame_answer frame_left bytes_of
  taken =
      let b = body k t p in
      let n = length-body k t p in
      let l : length part ≡ length d - at = ap length whole ∙ length-drop at d in
      let e = le-ltb (length b) overhead (omega arith) in
      let f = le-ltb body_max (length b) (omega arith) in
      let g = le-ltb (length part) (worst (length b) + 1) (omega arith) in
      (simp (e, f, g), simp (e, f, g))

  module _ {w : Written} (writes : written_result w ≡ written_result (frame_answer (body k t p) (length part))) where
    answer : w ≡ frame_answer (body k t p) (length part)
    answer = written_same w (frame_answer (body k t p) (length part)) writes

    pub not-refused : {r : _} → w ≡ W.Refused r → ⊥
    not-refused e = let z : ◌≡◌ {A = ℕ} 0 1 = cc (answer, taken.0) in omega arith

    -- so many bytes
    pub long : {n : ℕ} → w ≡ W.Done n → n ≡ length bytes
    long e = cc (answer, taken.0)

    pub frame-written : {n : ℕ} → w ≡ W.Done n → {m : List ℕ} → m ≡ frame_left (body k t p) part → Writes (frame k t p) d at (at + n) (take at d ++ (m ++ past))
    frame-written e l = record { ends = ap (λ (i : ℕ). at + i) (long e); lays = rw (l, taken.1) lay-part }
