-- Numbers in a script.
-- Assumes nothing.
use Rattle.std.specs.Prelude.{ℕ, zero, suc, ◌+◌, ◌-◌, ◌*◌, Bool, true, false, cond, Option, Some, None, List, [], ◌∷◌, ltb, leb, eqb}
use Prim.Native.Char.{code}

-- whether a character stands from a to b
abbrev pub between : ℕ → ℕ → ℕ → Bool
between a b c = cond (ltb c a) false (leb c b)

-- ---- decimal

unfoldable pub all_digits : List ℕ → Bool
all_digits [] = true
all_digits (c ∷ s) = cond (between (code "0") (code "9") c) (all_digits s) false

-- the value of some digits that come after the number n
unfoldable pub value : ℕ → List ℕ → ℕ
value n [] = n
value n (c ∷ s) = value (n * 10 + (c - code "0")) s

-- a number that must not be above most
abbrev pub up_to : ℕ → ℕ → Option ℕ
up_to most n = cond (leb n most) (Some n) None

-- a word as a decimal number up to most: a digit or more, of which the first may be zeros
unfoldable pub decimal_in : ℕ → List ℕ → Option ℕ
decimal_in most [] = None
decimal_in most (c ∷ s) = cond (all_digits (c ∷ s)) (up_to most (value 0 (c ∷ s))) None

-- -n in two's complement, where half of the numbers are below zero
abbrev pub minus : ℕ → Option ℕ → Option ℕ
minus half (Some zero) = Some 0
minus half (Some (suc n)) = Some (half + half - suc n)
minus half None = None

-- a word as a signed number, from -half to half - 1
unfoldable pub signed_in : ℕ → List ℕ → Option ℕ
signed_in half [] = None
signed_in half (c ∷ s) = cond (eqb c (code "-")) (minus half (decimal_in half s)) (decimal_in (half - 1) (c ∷ s))

-- ---- hexadecimal

-- the value of a digit, in either case
abbrev pub nibble : ℕ → Option ℕ
nibble c =
    cond (between (code "0") (code "9") c) (Some (c - code "0"))
    (cond (between (code "A") (code "F") c) (Some (c - code "A" + 10))
    (cond (between (code "a") (code "f") c) (Some (c - code "a" + 10)) None))

-- the byte of two digits
abbrev pub pair : Option ℕ → Option ℕ → Option ℕ
pair (Some h) (Some l) = Some (h * 16 + l)
pair (Some h) None = None
pair None l = None

-- a word as a byte
abbrev pub byte_of : List ℕ → Option ℕ
byte_of [] = None
byte_of (a ∷ []) = None
byte_of (a ∷ b ∷ []) = pair (nibble a) (nibble b)
byte_of (a ∷ b ∷ c ∷ s) = None
