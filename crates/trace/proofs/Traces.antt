-- What a trace's line has, and how long it is.
-- Assumes nothing.
use mathlib.Core.Path.{◌≡◌, refl}
use mathlib.Core.List.{List, [], ◌∷◌}
use Prim.Native.Nat.{ℕ}
use native.Mathlib.Omega.{arith}
use lib.ListN.{length}
use Rattle.text.specs.Text.{text, hex}
use Rattle.trace.specs.Traces.{bytes_text}

pub dash : (bs : List ℕ) → length bs ≡ 0 → bytes_text bs ≡ text "-"
dash [] h = refl
dash (b ∷ bs) h = absurd (omega arith)

pub digits : (bs : List ℕ) → (length bs ≡ 0 → ⊥) → bytes_text bs ≡ hex bs
digits [] h = absurd (h refl)
digits (b ∷ bs) h = refl
