-- Numbers in a payload: P 5.1. Each stands low byte first, a signed one in two's complement.
-- Assumes nothing.
use Rattle.std.specs.Prelude.{ℕ, zero, suc, ◌+◌, ◌-◌, ◌*◌, ◌/◌, ◌%◌, cond, List, [], ◌∷◌, ltb, ℤ, pos, negsuc, take, drop}
use Rattle.buffer.specs.Lay.{lay}

-- x in n bytes, low byte first
unfoldable pub le : ℕ → ℕ → List ℕ
le zero x = []
le (suc n) x = x % 256 ∷ le n (x / 256)

-- the number that some bytes stand for, low byte first
unfoldable pub number : List ℕ → ℕ
number [] = 0
number (b ∷ bs) = b + 256 * number bs

-- Two's complement: `half` of the numbers are not below zero, and as many are. i8, i16 and i32 by their halves.
abbrev pub sign8 : ℕ
sign8 = 0x80

abbrev pub sign16 : ℕ
sign16 = 0x8000

abbrev pub sign32 : ℕ
sign32 = 0x80000000

-- a signed number as the unsigned one with the same bytes; negsuc n is -(n + 1)
unfoldable pub unsigned : ℕ → ℤ → ℕ
unsigned half (pos n) = n
unsigned half (negsuc n) = half + half - suc n

-- and back
unfoldable pub signed : ℕ → ℕ → ℤ
signed half u = cond (ltb u half) (pos u) (negsuc (half + half - suc u))

-- A row of P's tables: the offset and the size of a field.
pub data Column : Type 0 where
  column : ℕ → ℕ → Column

-- the number that stands in a column of the payload p
abbrev pub get : Column → List ℕ → ℕ
get (column at n) p = number (take n (drop at p))

-- the payload p with the number x in a column
abbrev pub put : Column → ℕ → List ℕ → List ℕ
put (column at n) x p = lay at (le n x) p
