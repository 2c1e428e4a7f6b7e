-- The tag's two bytes have the digits that the definition takes from the tag.
-- Assumes nothing.
use mathlib.Core.Path.{◌≡◌}
use mathlib.Core.List.{[], ◌∷◌}
use Prim.Native.Nat.{ℕ, ◌/◌, ◌%◌}
use native.Mathlib.Omega.{arith}
use Rattle.text.specs.Text.{hex}
use Rattle.line.specs.Lines.{hex4}
use Rattle.line.proofs.hex4.Goals as goal

two_bytes : (n : ℕ) → hex (n / 256 ∷ n % 256 ∷ []) ≡ hex4 n
unfolding hex hex4
two_bytes n =
    let a : n / 256 / 16 ≡ n / 4096 = omega arith in
    let b : n % 256 / 16 ≡ n / 16 % 16 = omega arith in
    let c : n % 256 % 16 ≡ n % 16 = omega arith in
    simp (a, b, c)

pub hex-requires : goal.hex-requires
hex-requires c =
    rw two_bytes c.requires

pub returns : goal.returns
returns c =
    record { value = rw two_bytes at c.hex.ensures.value; dst_after = rw two_bytes at c.hex.ensures.dst_after }
