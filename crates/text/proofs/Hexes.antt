-- One byte more in hexadecimal: two digits are stored.
-- Assumes nothing.
use mathlib.Core.List.{List}
use Prim.Native.Nat.{ℕ, ◌+◌, ◌/◌, ◌%◌, ◌<◌, ◌≤◌}
use native.Mathlib.Nat.{add_assoc}
use native.Mathlib.Omega.{arith}
use lib.ListN.{length, drop, set, get_or}
use Rattle.buffer.proofs.Laws.{next}
use Rattle.buffer.proofs.Laying.{Laying, byte}
use Rattle.text.specs.Text.{digit, hex}

module _ {at₀ : ℕ} {whole d₀ : List ℕ} {at : ℕ} {d : List ℕ} (s : List ℕ) (i : ℕ) (h : i < length s)
    (l : Laying at₀ whole d₀ at (hex (drop i s)) d) where
  -- they have room
  pub two-fit : at + 2 ≤ length d
  unfolding hex
  two-fit = let m = rw (next s i h) at l in omega (arith, m.room, m.long, m.size)

  pub two : Laying at₀ whole d₀ (at + 2) (hex (drop (i + 1) s)) (set (set d at (digit (get_or s i 0 / 16))) (at + 1) (digit (get_or s i 0 % 16)))
  unfolding hex
  two = rw add_assoc at (byte (byte (rw (next s i h) at l)))
