-- What can be sent is read back as the same message, by the law of the writer and the reader of answers (crate message); and the six messages of the device can
-- be sent: their values have their types, their tags are right, and their payloads have their forms.
-- Assumes nothing.
use mathlib.Core.Path.{◌≡◌, refl}
use mathlib.Core.Bool.{Bool, true, false}
use mathlib.Core.List.{List, [], ◌∷◌}
use Prim.Native.Nat.{ℕ, ◌+◌, ◌<◌, ◌≤◌, zero-le}
use native.Mathlib.Nat.{le_refl}
use native.Mathlib.Omega.{arith}
use borrow.Author.Tests.{le-ltb, eq-eqb, ne_eqb}
use lib.Dec.{eqb}
use lib.ListN.{length, replicate, length-append}
use Rattle.cobs.specs.Encoding.{worst}
use Rattle.cobs.specs.Answers.{body_max, encoded_max}
use Rattle.buffer.specs.Lay.{lay}
use Rattle.scalar.specs.Bytes.{Each}
use Rattle.scalar.specs.Scalars.{le, number}
use Rattle.scalar.proofs.Laws.{number-le}
use Rattle.frame.specs.Body.{overhead}
use Rattle.frame.specs.Writing.{frame_answer}
use Rattle.frame.specs.declared.Written.TheVariants as W
use Rattle.kind.specs.Kinds.{is_command, tag_wrong, packet_max}
use Rattle.form.proofs.Laws.{exactly-size}
use Rattle.modulation.specs.Fsk.{sync_word_max}
use Rattle.modulation.specs.Modulations.{config_form, config_bytes}
use Rattle.modulation.specs.Ranges.{ModulationIn}
use Rattle.modulation.proofs.Laws.{word_len, word-form}
use Rattle.info.proofs.Laws.{info-form-of}
use Rattle.rx.specs.Rx.{rx_bytes}
use Rattle.rx.specs.Ranges.{RxIn}
use Rattle.rx.proofs.Laws.{length-rx, rx-form-back}
use Rattle.answer.specs.Answers.{
  configured_form,
  configured_bytes,
  tx_done_form,
  tx_done_max,
  tx_done_bytes,
  answer_form,
  answer_kind,
  answer_name,
  answer_bytes,
}
use Rattle.answer.proofs.Laws.{answer-is}
use Rattle.wellformed.specs.Checking.{has, form_of, fits_written, check}
use Rattle.wellformed.specs.declared.Kinds.TheVariants as K
use Rattle.writer.specs.Writing.{write_answer, write_left}
use Rattle.message.proofs.Laws.{answer-frame}
use Rattle.board.specs.Board.{Board, board_info, uids_of}
use Rattle.device.specs.State.{Config, Setting, Packet}
use Rattle.device.specs.Messages.{Message, payload, message_bytes, ok, ok_info, ok_configured, err, tx_done, yes, rx_value, rx}
use Rattle.device.specs.Events.{drops_max}
use Rattle.device.specs.Ranges.{PacketIn, BoardIn}
use Rattle.device.specs.Demands.{Back}
use Rattle.device.proofs.Wires.{Sendable, AllSendable, body_of, body-sized, run_short}

-- ---- what can be sent is read back

module _ (m : Message) (s : Sendable m) where
  writes : (room : ℕ) → 283 ≤ room
      → write_answer (K.Answers (answer_name m.answer)) (answer_kind m.answer) m.tag (payload m) room ≡ W.Done (length (message_bytes m))
  unfolding write_answer check has fits_written form_of frame_answer message_bytes
  writes room r =
      let n = length (body_of m) in
      let l = body-sized m s in
      rw (
        s.tag,
        answer-is m.answer,
        s.form,
        le-ltb n overhead l.0,
        le-ltb body_max n l.1,
        le-ltb room (worst n + 1) (omega (arith, l.1)),
      )

  leaves : (d : List ℕ) → 283 ≤ length d
      → write_left (K.Answers (answer_name m.answer)) (answer_kind m.answer) m.tag (payload m) d ≡ lay 0 (message_bytes m) d
  unfolding write_left message_bytes
  leaves d r = rw (writes (length d) r)

  pub back : Back m
  back =
      let reads = answer-frame m.answer s.values m.tag s.small m.bytes 283 (writes 283 (le_refl 283)) in
      let d : List ℕ = replicate encoded_max 0 in
      let l = run_short m s in
      record {
        written = writes;
        left = leaves;
        taken = λ name may. (reads name may d l).0.answer;
        same = λ name may. (reads name may d l).1;
        bytes = λ name may. (reads name may d l).2;
      }

pub all_back : (ms : List Message) → AllSendable ms → Each Back ms
all_back [] s = tt
all_back (m ∷ ms) s = (back m s.0, all_back ms s.1)

-- ---- the six messages

-- a tag of a command, and so of its answers: a u16, and not zero
abbrev pub TagIn : ℕ → Type 0
TagIn t = (0 < t) × (t < 65536)

not-zero : (t : ℕ) → TagIn t → eqb t 0 ≡ false
not-zero t h = ne_eqb t 0 (λ e. omega (arith, h.0))

pub ok-sent : (t : ℕ) → TagIn t → Sendable (ok t)
unfolding tag_wrong is_command answer_form answer_bytes
ok-sent t h = record { values = tt; small = h.1; tag = not-zero t h; form = refl }

pub info-sent : (b : Board) → BoardIn b → (t : ℕ) → TagIn t → Sendable (ok_info b t)
unfolding tag_wrong is_command answer_form answer_bytes board_info
info-sent b i t h =
    record {
      values = i.info;
      small = h.1;
      tag = not-zero t h;
      form = info-form-of (board_info b) i.info (uids_of b) i.mcu_uid i.radio_uid (length-append b.mcu_uid b.radio_uid);
    }

-- a configuration: its parameters have their types, and its sync word has the length that they say
pub record ConfigIn (c : Config) : Type 0 where
  pub values : ModulationIn c.modulation
  pub word : length c.word ≡ word_len c.modulation
  pub short : word_len c.modulation ≤ sync_word_max

pub configured-sent : (c : Setting) → TagIn c.tag → ConfigIn c.config → Sendable (ok_configured c)
unfolding tag_wrong is_command answer_form answer_bytes configured_form configured_bytes number lay le
configured-sent c h i =
    let m = c.config.modulation in
    let p = config_bytes m c.config.word in
    let e = exactly-size (config_form p) (length p) (word-form m i.values c.config.word i.word i.short) in
    record {
      values = record { result = omega arith; owner = omega arith; current = i.values };
      small = h.1;
      tag = not-zero c.tag h;
      form = rw (le-ltb (length (payload (ok_configured c))) 2 (omega arith), e) (eq-eqb (2 + length p) (length (payload (ok_configured c))) (omega arith));
    }

-- an ERR may have any tag
pub err-sent : (code : ℕ) → code < 65536 → (t : ℕ) → t < 65536 → Sendable (err code t)
unfolding tag_wrong is_command answer_form answer_bytes lay le
err-sent code k t h = record { values = k; small = h; tag = refl; form = refl }

pub done-sent : (result airtime : ℕ) → result ≤ tx_done_max → airtime < 0x100000000 → (t : ℕ) → TagIn t → Sendable (tx_done result airtime t)
unfolding tag_wrong is_command answer_form answer_bytes tx_done_form tx_done_bytes lay le
done-sent result airtime r a t h =
    record {
      values = (omega arith, a);
      small = h.1;
      tag = not-zero t h;
      form = rw (number-le 1 result (omega arith), le-ltb tx_done_max result r);
    }

yes-small : (v : Bool) → yes v ≤ 1
yes-small true = le_refl 1
yes-small false = zero-le

pub rx-sent : (p : Packet) → PacketIn p → length p.bytes ≤ packet_max → (drops : ℕ) → drops ≤ drops_max → Sendable (rx p drops)
unfolding tag_wrong is_command answer_form answer_bytes
rx-sent p i l drops d =
    let v : RxIn (rx_value p drops) =
    record {
      rssi = i.rssi;
      snr = i.snr;
      freq_err = i.freq_err;
      timestamp_us = i.timestamp_us;
      crc_valid = omega (arith, yes-small p.crc_valid);
      packets_dropped = omega arith;
      origin = omega arith;
    } in
    record {
      values = v;
      small = omega arith;
      tag = refl;
      form =
          rw (rx-form-back (rx_value p drops) v p.bytes, le-ltb 255 (length p.bytes) l, le-ltb 1 (yes p.crc_valid) (yes-small p.crc_valid))
          (eq-eqb (20 + length p.bytes) (length (payload (rx p drops)))
          (omega (arith, length-append (rx_bytes (rx_value p drops)) p.bytes, length-rx (rx_value p drops))));
    }
