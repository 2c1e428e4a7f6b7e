-- What the decoder's answer tells, where the run is not too long and has room: a body was written, or the run is no encoding.
-- Assumes nothing.
use mathlib.Core.Path.{◌≡◌, refl, sym, ◌∙◌}
use mathlib.Core.Bool.{Bool, true, false, cond}
use mathlib.Core.List.{List, [], ◌∷◌}
use Prim.Native.Nat.{ℕ, ◌≤◌}
use native.Mathlib.Omega.{arith}
use borrow.Author.Tests.{le-ltb}
use denote.Enum.Declared.{tag_of}
use types.Run.{OneOf, miss}
use lib.ListN.{length, take}
use Rattle.cobs.specs.Decoding.{broken, decoded}
use Rattle.cobs.specs.Answers.{encoded_max, decode_answer, decode_left}
use Rattle.cobs.specs.declared.Decoded.TheVariants as D
use Rattle.cobs.specs.contracts.Decoded.{the_type}
use Rattle.cobs.proofs.Laws.{decoded-length}
use Rattle.frame.proofs.Laws.{take-laid}

refused : (b : Bool) (n : ℕ) → ((x : ℕ) → cond b D.Stuff (D.Done n) ≡ D.Done x → ⊥) → b ≡ true
refused true n k = refl
refused false n k = absurd (k n refl)

done : (b : Bool) (n : ℕ) {m : ℕ} → cond b D.Stuff (D.Done n) ≡ D.Done m → (b ≡ false) × (m ≡ n)
done true n e = (cc, cc)
done false n e = (refl, cc)

module _ (run d : List ℕ) (small : length run ≤ encoded_max) (room : encoded_max ≤ length d) where
  answers : decode_answer run (length d) ≡ cond (broken run) D.Stuff (D.Done (length (decoded run)))
  unfolding decode_answer
  answers = simp (le-ltb encoded_max (length run) small, le-ltb (length d) (length run) (omega arith))

  -- an answer that is not `Done`
  pub is-broken : ((x : ℕ) → decode_answer run (length d) ≡ D.Done x → ⊥) → broken run ≡ true
  is-broken k = refused (broken run) (length (decoded run)) (rw answers at k)

  -- `Done`
  module _ {n : ℕ} (e : decode_answer run (length d) ≡ D.Done n) where
    both : (broken run ≡ false) × (n ≡ length (decoded run))
    both = done (broken run) (length (decoded run)) (sym answers ∙ e)

    pub is-sound : broken run ≡ false
    is-sound = both.0

    pub inside : n ≤ length d
    inside = omega (arith, both.1, decoded-length run)

    pub body-read : take n (decode_left run d) ≡ decoded run
    unfolding decode_left
    body-read = simp e (rw both.1 (take-laid (decoded run) d))
