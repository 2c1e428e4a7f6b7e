-- Calls that write a text piece by piece, each from where the last one ended.
-- Assumes nothing.
use mathlib.Core.Path.{◌≡◌, ◌∙◌}
use mathlib.Core.List.{List, ◌++◌}
use Prim.Native.Nat.{ℕ, ◌+◌, ◌≤◌}
use native.Mathlib.Omega.{arith}
use lib.ListN.{length}
use Rattle.buffer.specs.Lay.{lay}
use Rattle.buffer.proofs.Laying.{Laying, piece}

module _ {at₀ : ℕ} {whole d₀ : List ℕ} {at : ℕ} {d : List ℕ} {r : ℕ} {e : List ℕ} where
  -- one piece is written
  pub wrote : (a rest : List ℕ) → Laying at₀ whole d₀ at (a ++ rest) d → (r ≡ at + length a) × (e ≡ lay at a d)
      → Laying at₀ whole d₀ r rest e
  wrote a rest l (p, q) = rw (p, q) (piece a l)

  -- the last piece is written
  pub ended : (a : List ℕ) → Laying at₀ whole d₀ at a d → (r ≡ at + length a) × (e ≡ lay at a d)
      → (r ≡ at₀ + length whole) × (e ≡ lay at₀ whole d₀)
  ended a l (p, q) = (p ∙ l.size, q ∙ l.laid)

-- the last piece has room
pub last_fits : {at₀ : ℕ} {whole d₀ : List ℕ} {at : ℕ} {d a : List ℕ} → Laying at₀ whole d₀ at a d → at + length a ≤ length d
last_fits l = omega (arith, l.room, l.long, l.size)
