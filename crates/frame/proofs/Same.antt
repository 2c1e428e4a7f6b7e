-- An answer is told by its number and its value.
-- The idea: they lead back to it.
-- Assumes nothing.
use mathlib.Core.Path.{◌≡◌, refl, ap}
use Rattle.status.proofs.Laws.{same_by, refusal-back, answer_by}
use Rattle.frame.specs.Writing.{written_result}
use Rattle.frame.specs.Reading.{Head, opened_result}
use Rattle.frame.specs.declared.Written.{Written}
use Rattle.frame.specs.declared.Written.TheVariants as W
use Rattle.frame.specs.declared.Opened.{Opened}
use Rattle.frame.specs.declared.Opened.TheVariants as O

written_back : (a : Written) → answer_by W.Done W.Refused (written_result a) ≡ a
written_back (W.Done n) = refl
written_back (W.Refused r) = ap W.Refused (refusal-back r)

pub written_same : (a b : Written) → written_result a ≡ written_result b → a ≡ b
written_same = same_by written_result (answer_by W.Done W.Refused) written_back

abbrev body_of : Head → Opened
body_of h = O.Body h.kind h.tag h.len

opened-back : (a : Opened) → answer_by body_of O.Refused (opened_result a) ≡ a
opened-back (O.Body k t n) = refl
opened-back (O.Refused r) = ap O.Refused (refusal-back r)

pub opened-same : (a b : Opened) → opened_result a ≡ opened_result b → a ≡ b
opened-same = same_by opened_result (answer_by body_of O.Refused) opened-back
