-- A message that was written and is read back is the same message, for all ten and on both sides, as a frame and as a body.
-- The idea: what was written has passed TAG, TYPE and FORM; a frame opens to its body; and the payload's own law does the rest.
-- Assumes nothing.
use mathlib.Core.Path.{◌≡◌, refl, ap, ◌∙◌}
use mathlib.Core.Bool.{true}
use mathlib.Core.List.{List}
use Prim.Native.Nat.{ℕ, ◌<◌, ◌≤◌}
use native.Mathlib.Omega.{arith}
use lib.ListN.{length}
use Rattle.buffer.specs.Lay.{lay}
use Rattle.cobs.specs.Encoding.{encoded}
use Rattle.cobs.specs.Decoding.{decoded}
use Rattle.cobs.proofs.Laws.{round_trip}
use Rattle.frame.specs.Body.{body, payload_max, payload_of}
use Rattle.frame.specs.declared.Written.{Written}
use Rattle.frame.specs.declared.Written.TheVariants as W
use Rattle.frame.proofs.Laws.{payload-body, body-opens, frame-opens}
use Rattle.kind.specs.declared.Name.{Name}
use Rattle.form.specs.Forms.{at_least}
use Rattle.form.proofs.Laws.{exactly-at-least}
use Rattle.command.specs.Commands.{read_command, command_kind, command_bytes, command_tail}
use Rattle.command.specs.Ranges.{CommandIn}
use Rattle.command.specs.declared.Command.{Command}
use Rattle.command.specs.declared.Asked.TheVariants as A
use Rattle.command.proofs.Laws.{command-small, command-back, command-tail}
use Rattle.answer.specs.Answers.{answer_form, read_answer, answer_kind, answer_name, MayAnswer, answer_bytes, answer_tail}
use Rattle.answer.specs.Ranges.{AnswerIn}
use Rattle.answer.specs.declared.Answer.{Answer}
use Rattle.answer.specs.declared.Answered.TheVariants as D
use Rattle.answer.proofs.Laws.{answer-small, answer_back, answer-tail, form-named, read_named, tail-named}
use Rattle.wellformed.specs.Checking.{has, form_of, fits_read, fits_written, check}
use Rattle.message.specs.Back.{FrameBack, BodyBack}
use Rattle.writer.specs.Writing.{where_good, body_answer, write_answer}
use Rattle.wellformed.specs.declared.Kinds.{Kinds}
use Rattle.wellformed.specs.declared.Kinds.TheVariants as K
use Rattle.wellformed.specs.declared.Checked.{Checked}
use Rattle.wellformed.specs.declared.Checked.TheVariants as J
use Rattle.wellformed.proofs.Laws.{Good, good}
use Rattle.reader.proofs.Steps.{takes}

-- ---- what was written was good

done : (j : Checked) (w : Written) {n : ℕ} → where_good j w ≡ W.Done n → j ≡ J.Good
done J.Good w e = refl
done (J.Refused r) w e = absurd (let z : ◌≡◌ {A = ℕ} 0 1 = cc in omega arith)

module _ (kinds : Kinds) (k t : ℕ) (p : List ℕ) (room : ℕ) {n : ℕ} where
  body-good : body_answer kinds k t p room ≡ W.Done n → Good kinds k t (fits_written kinds k p)
  unfolding body_answer
  body-good e = good kinds k t (fits_written kinds k p) (done (check kinds k t (fits_written kinds k p)) _ e)

  frame-good : write_answer kinds k t p room ≡ W.Done n → Good kinds k t (fits_written kinds k p)
  unfolding write_answer
  frame-good e = good kinds k t (fits_written kinds k p) (done (check kinds k t (fits_written kinds k p)) _ e)

-- ---- a frame is read back, whatever message it holds

module _ (kinds : Kinds) (k t : ℕ) (p d : List ℕ) (small : t < 65536) (short : length p ≤ payload_max)
    (room : length (encoded (body k t p)) ≤ length d) (g : Good kinds k t (fits_read kinds k p)) where
  -- the run that a frame is, without its zero
  abbrev run : List ℕ
  run = encoded (body k t p)

  same-payload : payload_of (decoded run) ≡ p
  same-payload = ap payload_of (round_trip (body k t p)) ∙ payload-body k t p

  well-formed : check kinds k t (fits_read kinds k (payload_of (decoded run))) ≡ J.Good
  unfolding check
  well-formed = rw (same-payload, g.tag, g.type, g.form)

  frame_back : FrameBack kinds k t p d
  frame_back =
      let b = takes kinds run d (frame-opens k t p d small short room).0 well-formed in
      record {
        answer = b.0;
        memory = b.1 ∙ ap (λ (x : List ℕ). lay 0 x d) (round_trip (body k t p));
        payload = payload-body k t p;
      }

body_back : (k t : ℕ) (p : List ℕ) → t < 65536 → length p ≤ payload_max → BodyBack k t p
body_back k t p small short = record { answer = body-opens k t p small short; payload = payload-body k t p }

-- ---- the six commands: the host writes, the device reads

module _ (c : Command) (i : CommandIn c) (tag : ℕ) (small : tag < 65536) (bytes : List ℕ) (room : ℕ) where
  pub command-frame : {n : ℕ} → write_answer K.Commands (command_kind c) tag (command_bytes c bytes) room ≡ W.Done n
      → (d : List ℕ) → length (encoded (body (command_kind c) tag (command_bytes c bytes))) ≤ length d
      → FrameBack K.Commands (command_kind c) tag (command_bytes c bytes) d
      × (read_command (command_kind c) (command_bytes c bytes) ≡ A.Command c)
      × (command_tail (command_kind c) (command_bytes c bytes) ≡ bytes)
  unfolding fits_read fits_written form_of
  command-frame e d h =
      let k = command_kind c in
      let p = command_bytes c bytes in
      let g = frame-good K.Commands k tag p room e in (
        frame_back K.Commands k tag p d small (command-small k p g.form) h record { tag = g.tag; type = g.type; form = g.form },
        command-back c i bytes g.form,
        command-tail c i bytes g.form,
      )

  pub command-body : {n : ℕ} → body_answer K.Commands (command_kind c) tag (command_bytes c bytes) room ≡ W.Done n
      → BodyBack (command_kind c) tag (command_bytes c bytes)
      × (read_command (command_kind c) (command_bytes c bytes) ≡ A.Command c)
      × (command_tail (command_kind c) (command_bytes c bytes) ≡ bytes)
  unfolding fits_written form_of
  command-body e =
      let k = command_kind c in
      let p = command_bytes c bytes in
      let g = body-good K.Commands k tag p room e in
      (body_back k tag p small (command-small k p g.form), command-back c i bytes g.form, command-tail c i bytes g.form)

-- ---- the four answers: the device writes, the host reads, with a command named that the answer may have

module _ (a : Answer) (i : AnswerIn a) (tag : ℕ) (small : tag < 65536) (bytes : List ℕ) (room : ℕ) where
  pub answer-frame : {n : ℕ} → write_answer (K.Answers (answer_name a)) (answer_kind a) tag (answer_bytes a bytes) room ≡ W.Done n
      → (name : Name) → MayAnswer a name → (d : List ℕ) → length (encoded (body (answer_kind a) tag (answer_bytes a bytes))) ≤ length d
      → FrameBack (K.Answers name) (answer_kind a) tag (answer_bytes a bytes) d
      × (read_answer (answer_kind a) name (answer_bytes a bytes) ≡ D.Answer a)
      × (answer_tail (answer_kind a) name (answer_bytes a bytes) ≡ bytes)
  unfolding has fits_read fits_written form_of
  answer-frame e name may d h =
      let k = answer_kind a in
      let p = answer_bytes a bytes in
      let g = frame-good (K.Answers (answer_name a)) k tag p room e in
      let x = exactly-at-least (answer_form k (answer_name a) p) (length p) g.form in
      let f : at_least (answer_form k name p) (length p) ≡ true = rw (form-named a name may p) x in (
        frame_back (K.Answers name) k tag p d small (answer-small k (answer_name a) p g.form) h record { tag = g.tag; type = g.type; form = f },
        read_named a name may p ∙ answer_back a i bytes g.form,
        tail-named a name may p ∙ answer-tail a i bytes g.form,
      )

  pub answer-body : {n : ℕ} → body_answer (K.Answers (answer_name a)) (answer_kind a) tag (answer_bytes a bytes) room ≡ W.Done n
      → (name : Name) → MayAnswer a name
      → BodyBack (answer_kind a) tag (answer_bytes a bytes)
      × (read_answer (answer_kind a) name (answer_bytes a bytes) ≡ D.Answer a)
      × (answer_tail (answer_kind a) name (answer_bytes a bytes) ≡ bytes)
  unfolding fits_written form_of
  answer-body e name may =
      let k = answer_kind a in
      let p = answer_bytes a bytes in
      let g = body-good (K.Answers (answer_name a)) k tag p room e in (
        body_back k tag p small (answer-small k (answer_name a) p g.form),
        read_named a name may p ∙ answer_back a i bytes g.form,
        tail-named a name may p ∙ answer-tail a i bytes g.form,
      )
