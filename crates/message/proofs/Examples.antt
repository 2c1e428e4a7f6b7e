-- The order of refusals on small messages, by computing: 01 "Numbers that come back", and docs/DECISIONS.md where it is open.
-- Assumes nothing.
use mathlib.Core.Path.{◌≡◌, refl}
use mathlib.Core.List.{List, [], ◌∷◌}
use Prim.Native.Nat.{ℕ}
use Rattle.status.specs.declared.Refusal.TheVariants as R
use Rattle.crc16.specs.Crc.{bit, bits, byte, crc_from, crc_of}
use Rattle.cobs.specs.Encoding.{grouped, groups_bytes, encoded}
use Rattle.cobs.specs.Decoding.{has_zero, whole, broken, parts, groups, joined, decoded}
use Rattle.scalar.specs.Scalars.{le, number}
use Rattle.frame.specs.Body.{covered, body}
use Rattle.frame.specs.Reading.{open_body, open_answer}
use Rattle.frame.specs.declared.Opened.{Opened}
use Rattle.frame.specs.declared.Opened.TheVariants as O
use Rattle.kind.specs.Kinds.{is_command, is_answer, tag_wrong}
use Rattle.kind.specs.declared.Name.TheVariants as N
use Rattle.command.specs.Commands.{tx_form, command_form}
use Rattle.rx.specs.Rx.{rx_form}
use Rattle.answer.specs.Answers.{tx_done_form, answer_form}
use Rattle.wellformed.specs.Checking.{has, form_of, fits_read, check}
use Rattle.reader.specs.Reading.{receive_answer}
use Rattle.wellformed.specs.declared.Kinds.{Kinds}
use Rattle.wellformed.specs.declared.Kinds.TheVariants as K

-- a frame of this type, tag and payload, read with room for 282 bytes
abbrev pub reads : Kinds → ℕ → ℕ → List ℕ → Opened
reads kinds k t p = receive_answer kinds (encoded (body k t p)) 282

-- what a reader computes with
unfoldable computes : Unit {0}
unfolding receive_answer open_answer open_body body covered encoded grouped groups_bytes broken has_zero whole decoded groups parts joined
    le number crc_of crc_from byte bits bit check has tag_wrong is_command is_answer fits_read form_of command_form tx_form answer_form tx_done_form rx_form
computes = tt

-- PING 0001 on the device; on the host it is of the other side
pub ping : (reads K.Commands 1 1 [] ≡ O.Body 1 1 0) × (reads (K.Answers N.Ping) 1 1 [] ≡ O.Refused R.Type)
unfolding computes
ping = (refl, refl)

-- TAG before TYPE: a PING with tag zero on both sides, an RX with a tag on the device
pub tags : (reads K.Commands 1 0 [] ≡ O.Refused R.Tag)
    × (reads (K.Answers N.Ping) 1 0 [] ≡ O.Refused R.Tag)
    × (reads K.Commands 0xC0 5 [] ≡ O.Refused R.Tag)
unfolding computes
tags = (refl, refl, refl)

-- a type that is none of the ten has no tag rule
pub unknown : (reads K.Commands 7 0 [] ≡ O.Refused R.Type) × (reads (K.Answers N.Ping) 7 0 [] ≡ O.Refused R.Type)
unfolding computes
unknown = (refl, refl)

-- FORM: flags 2 in a TX (P C.5.3); a result of 3 in a TX_DONE; an ERR of one byte. An ERR of three is read.
pub forms : (reads K.Commands 4 0x2A (2 ∷ 0x68 ∷ 0x69 ∷ []) ≡ O.Refused R.Form)
    × (reads K.TxDone 0xC1 0x14 (3 ∷ 0 ∷ 0 ∷ 0 ∷ 0 ∷ []) ≡ O.Refused R.Form)
    × (reads (K.Answers N.Tx) 0x81 0 (1 ∷ []) ≡ O.Refused R.Form)
    × (reads (K.Answers N.Tx) 0x81 0 (1 ∷ 0 ∷ 9 ∷ []) ≡ O.Body 0x81 0 3)
unfolding computes
forms = (refl, refl, refl, refl)
