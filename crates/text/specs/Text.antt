-- Text, as the bytes that it has in ASCII, and numbers in it.
-- Assumes nothing.
use Rattle.std.specs.Prelude.{ℕ, zero, suc, ◌+◌, ◌-◌, ◌/◌, ◌%◌, cond, List, [], ◌∷◌, ◌++◌, ltb}
use Prim.Native.Char.{code}
use Prim.Native.String.{String, [] as []ₛ, ◌∷◌ as ◌∷ₛ◌}

abbrev pub text : String → List ℕ
text []ₛ = []
text (c ∷ₛ s) = code c ∷ text s

-- a digit below 16: `0` to `9`, then `A` to `F`
abbrev pub digit : ℕ → ℕ
digit d = cond (ltb d 10) (code "0" + d) (code "A" + (d - 10))

-- the last k decimal digits of n, with no zero in front
unfoldable pub trailing_digits : ℕ → ℕ → List ℕ
trailing_digits zero n = []
trailing_digits (suc k) n = cond (ltb n 10) [] (trailing_digits k (n / 10)) ++ (digit (n % 10) ∷ [])

-- a number in decimal: one under 2^64 has 20 digits at most
unfoldable pub decimal : ℕ → List ℕ
decimal n = trailing_digits 20 n

-- bytes in hexadecimal, two digits each
unfoldable pub hex : List ℕ → List ℕ
hex [] = []
hex (b ∷ bs) = digit (b / 16) ∷ digit (b % 16) ∷ hex bs
