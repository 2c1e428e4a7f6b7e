-- Whether a message is well-formed: 01 "Numbers that come back", 8, 9 and 10, the first that applies.
-- Assumes nothing.
use Rattle.std.specs.Prelude.{ℕ, Bool, cond, List, eqb, length}
use Rattle.status.specs.Numbers.{TAKEN}
use Rattle.status.specs.Refusals.{refusal_number}
use Rattle.status.specs.declared.Refusal.TheVariants as R
use Rattle.form.specs.Forms.{exactly, at_least}
use Rattle.form.specs.declared.Form.{Form}
use Rattle.kind.specs.Kinds.{RX, TX_DONE, is_command, is_answer, tag_wrong}
use Rattle.kind.specs.declared.Name.TheVariants as N
use Rattle.command.specs.Commands.{command_form}
use Rattle.answer.specs.Answers.{answer_form}
use Rattle.wellformed.specs.declared.Kinds.{Kinds}
use Rattle.wellformed.specs.declared.Kinds.TheVariants as K
use Rattle.wellformed.specs.declared.Checked.{Checked}
use Rattle.wellformed.specs.declared.Checked.TheVariants as J

-- TYPE: the types that a reader or a writer has
unfoldable pub has : Kinds → ℕ → Bool
has K.Commands kind = is_command kind
has (K.Answers name) kind = is_answer kind
has K.Rx kind = eqb kind RX
has K.TxDone kind = eqb kind TX_DONE

-- FORM: the form of a payload of some type. That of an RX or a TX_DONE does not depend on the command that is named.
unfoldable pub form_of : Kinds → ℕ → List ℕ → Form
form_of K.Commands kind p = command_form kind p
form_of (K.Answers name) kind p = answer_form kind name p
form_of K.Rx kind p = answer_form kind N.Ping p
form_of K.TxDone kind p = answer_form kind N.Ping p

-- The device takes exact sizes. The host ignores bytes after the known fields.
unfoldable pub fits_read : Kinds → ℕ → List ℕ → Bool
fits_read K.Commands kind p = exactly (form_of K.Commands kind p) (length p)
fits_read (K.Answers name) kind p = at_least (form_of (K.Answers name) kind p) (length p)
fits_read K.Rx kind p = at_least (form_of K.Rx kind p) (length p)
fits_read K.TxDone kind p = at_least (form_of K.TxDone kind p) (length p)

-- A writer adds no bytes.
unfoldable pub fits_written : Kinds → ℕ → List ℕ → Bool
fits_written kinds kind p = exactly (form_of kinds kind p) (length p)

-- TAG, TYPE, FORM
unfoldable pub check : Kinds → ℕ → ℕ → Bool → Checked
check kinds kind tag fits =
    cond (tag_wrong kind tag) (J.Refused R.Tag)
    (cond (has kinds kind)
    (cond fits J.Good (J.Refused R.Form))
    (J.Refused R.Type))

-- its number
abbrev pub checked_number : Checked → ℕ
checked_number J.Good = TAKEN
checked_number (J.Refused r) = refusal_number r
