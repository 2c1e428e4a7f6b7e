-- The definitions at their edges, by computing.
-- Assumes nothing.
use mathlib.Core.Path.{◌≡◌, refl}
use Rattle.text.specs.Text.{text, trailing_digits, decimal}
use Rattle.line.specs.Lines.{hex4}

-- a number has no zero in front, but zero itself is one digit
pub zero : decimal 0 ≡ text "0"
unfolding decimal trailing_digits
zero = refl

-- the largest u64 has 20 digits
pub most : decimal 18446744073709551615 ≡ text "18446744073709551615"
unfolding decimal trailing_digits
most = refl

-- a tag has four digits, in upper case
pub tag : hex4 0x0A2F ≡ text "0A2F"
unfolding hex4
tag = refl
