-- What is written is read back: some messages, one after another on the wire, are the frames of just those messages, whatever bytes follow.
-- The idea: each message is one run, and that run opens again.
-- Assumes nothing.
use mathlib.Core.Path.{◌≡◌, refl, sym, ap, ap₂, ◌∙◌}
use mathlib.Core.Bool.{true, false}
use mathlib.Core.List.{List, [], ◌∷◌, ◌++◌, map, append-nil, append_assoc}
use Prim.Native.Nat.{ℕ, ◌+◌, ◌<◌, ◌≤◌}
use native.Mathlib.Omega.{arith}
use lib.ListN.{length, replicate}
use Rattle.cobs.specs.Encoding.{encoded, worst}
use Rattle.cobs.specs.Answers.{body_max, encoded_max}
use Rattle.cobs.proofs.Laws.{length-bound, round_trip}
use Rattle.scalar.specs.Bytes.{Each}
use Rattle.scalar.proofs.Bytes.{each_append}
use Rattle.frame.specs.Body.{body, overhead, payload_max, payload_of}
use Rattle.frame.specs.Stream.{runs}
use Rattle.frame.proofs.Laws.{length-body, payload-body, frame-opens}
use Rattle.frame.proofs.Stream.{runs-frame, length-frame}
use Rattle.kind.specs.Kinds.{tag_wrong}
use Rattle.form.specs.Forms.{exactly}
use Rattle.answer.specs.Answers.{answer_form, answer_kind, answer_name}
use Rattle.answer.specs.Ranges.{AnswerIn}
use Rattle.answer.proofs.Laws.{answer-small}
use Rattle.device.specs.Messages.{Message, payload, message_bytes, messages_bytes, Frame, seen}
use Rattle.device.specs.Reading.{found, frame_in, frames_in, frames}

-- what the writer of answers takes: values of their types, a tag that the message may have, and a payload of the answer's form
pub record Sendable (m : Message) : Type 0 where
  pub values : AnswerIn m.answer
  pub small : m.tag < 65536
  pub tag : tag_wrong (answer_kind m.answer) m.tag ≡ false
  pub form : exactly (answer_form (answer_kind m.answer) (answer_name m.answer) (payload m)) (length (payload m)) ≡ true

abbrev pub AllSendable : List Message → Type 0
AllSendable ms = Each Sendable ms

pub sendable-append : (xs ys : List Message) → AllSendable xs → AllSendable ys → AllSendable (xs ++ ys)
sendable-append xs ys p q = each_append Sendable xs ys p q

-- ---- one message

abbrev pub body_of : Message → List ℕ
body_of m = body (answer_kind m.answer) m.tag (payload m)

-- how long its payload, its body and its run are
module _ (m : Message) (h : Sendable m) where
  payload-short : length (payload m) ≤ payload_max
  payload-short = answer-small (answer_kind m.answer) (answer_name m.answer) (payload m) h.form

  pub body-sized : (overhead ≤ length (body_of m)) × (length (body_of m) ≤ body_max)
  body-sized = let l = length-body (answer_kind m.answer) m.tag (payload m) in (omega arith, omega (arith, payload-short))

  pub run_short : length (encoded (body_of m)) ≤ encoded_max
  run_short = omega (arith, body-sized.1, length-bound (body_of m))

-- its frame is a run and a zero, and no longer than the worst case
pub length-wire : (m : Message) → length (message_bytes m) ≤ worst (length (payload m) + overhead) + 1
unfolding message_bytes
length-wire m = length-frame (answer_kind m.answer) m.tag (payload m)

-- the run opens
frame-in : (m : Message) → Sendable m → frame_in (encoded (body_of m)) ≡ seen m ∷ []
unfolding frame_in
frame-in m h =
    ap₂ found
    (frame-opens (answer_kind m.answer) m.tag (payload m) (replicate encoded_max 0) h.small (payload-short m h) (run_short m h)).0
    (ap payload_of (round_trip (body_of m)) ∙ payload-body (answer_kind m.answer) m.tag (payload m))

read-wire : (m : Message) → Sendable m → (bs : List ℕ) → frames (message_bytes m ++ bs) ≡ seen m ∷ frames bs
unfolding frames frames_in message_bytes
read-wire m h bs = ap frames_in (runs-frame (body_of m) bs) ∙ ap (λ (fs : List Frame). fs ++ frames bs) (frame-in m h)

-- ---- one after another

pub wires-append : (xs ys : List Message) → messages_bytes (xs ++ ys) ≡ messages_bytes xs ++ messages_bytes ys
unfolding messages_bytes
wires-append [] ys = refl
wires-append (x ∷ xs) ys =
    ap (λ (bs : List ℕ). message_bytes x ++ bs) (wires-append xs ys) ∙ sym (append_assoc (message_bytes x) (messages_bytes xs) (messages_bytes ys))

pub read-wires : (ms : List Message) → AllSendable ms → (bs : List ℕ) → frames (messages_bytes ms ++ bs) ≡ map seen ms ++ frames bs
unfolding messages_bytes
read-wires [] h bs = refl
read-wires (m ∷ ms) h bs =
    ap frames (append_assoc (message_bytes m) (messages_bytes ms) bs)
    ∙ read-wire m h.0 (messages_bytes ms ++ bs)
    ∙ ap (λ (fs : List Frame). seen m ∷ fs) (read-wires ms h.1 bs)

pub read_all : (ms : List Message) → AllSendable ms → frames (messages_bytes ms) ≡ map seen ms
unfolding frames frames_in runs
read_all ms h = ap frames (sym (append-nil (messages_bytes ms))) ∙ read-wires ms h [] ∙ append-nil (map seen ms)
