-- An answer is told by its number and its count.
-- The idea: they lead back to it.
-- Assumes nothing.
use mathlib.Core.Path.{◌≡◌, refl}
use mathlib.Core.Bool.{cond}
use mathlib.Core.Option.{Option, none, some}
use Prim.Native.Nat.{ℕ}
use lib.Dec.{eqb}
use Rattle.status.specs.Numbers.{SHORT, STUFF}
use Rattle.status.specs.Result.{Result}
use Rattle.status.proofs.Laws.{same_by}
use Rattle.cobs.specs.Answers.{encoded_result, decoded_result}
use Rattle.cobs.specs.declared.Encoded.{Encoded}
use Rattle.cobs.specs.declared.Encoded.TheVariants as E
use Rattle.cobs.specs.declared.Decoded.{Decoded}
use Rattle.cobs.specs.declared.Decoded.TheVariants as D

abbrev encoded_by : ℕ → Option ℕ → Encoded
encoded_by k none = cond (eqb k SHORT) E.Short E.Length
encoded_by k (some n) = E.Done n

encoded-back : (a : Encoded) → encoded_by (encoded_result a).number (encoded_result a).value ≡ a
encoded-back (E.Done n) = refl
encoded-back E.Short = refl
encoded-back E.Length = refl

pub encoded-same : (a b : Encoded) → encoded_result a ≡ encoded_result b → a ≡ b
encoded-same = same_by encoded_result (λ (c : Result ℕ). encoded_by c.number c.value) encoded-back

abbrev decoded_by : ℕ → Option ℕ → Decoded
decoded_by k none = cond (eqb k SHORT) D.Short (cond (eqb k STUFF) D.Stuff D.Length)
decoded_by k (some n) = D.Done n

decoded-back : (a : Decoded) → decoded_by (decoded_result a).number (decoded_result a).value ≡ a
decoded-back (D.Done n) = refl
decoded-back D.Short = refl
decoded-back D.Stuff = refl
decoded-back D.Length = refl

pub decoded-same : (a b : Decoded) → decoded_result a ≡ decoded_result b → a ≡ b
decoded-same = same_by decoded_result (λ (c : Result ℕ). decoded_by c.number c.value) decoded-back
