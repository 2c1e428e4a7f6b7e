-- The definitions on 01's example and at their edges, by computing.
-- Assumes nothing.
use mathlib.Core.Path.{◌≡◌, refl}
use mathlib.Core.List.{[], ◌∷◌, ◌++◌}
use lib.ListN.{replicate}
use Rattle.crc16.specs.Crc.{bit, bits, byte, crc_from, crc_of}
use Rattle.cobs.specs.Decoding.{has_zero, whole, broken, parts, groups, joined, decoded}
use Rattle.scalar.specs.Scalars.{number}
use Rattle.frame.specs.Reading.{open_body, open_answer}
use Rattle.text.specs.Text.{text, trailing_digits, decimal}
use Rattle.line.specs.Lines.{hex4, name, two_columns, line}
use Rattle.capture.specs.Listing.{heading, line_of, lines, listing}

-- what a listing computes with
unfoldable computes : Unit {0}
unfolding listing lines line_of line two_columns name heading hex4 decimal trailing_digits
    open_answer open_body broken has_zero whole decoded groups parts joined number crc_of crc_from byte bits bit
computes = tt

-- 01's example, whole
pub example :
    listing (0x03 ∷ 0x80 ∷ 0x01 ∷ 0x03 ∷ 0xF7 ∷ 0xC4 ∷ 0x00 ∷ 0x03 ∷ 0x81 ∷ 0x28 ∷ 0x02 ∷ 0x03 ∷ 0x03 ∷ 0x53 ∷ 0x7E ∷ 0x00 ∷ 0x05 ∷ 0x00 ∷ [])
    ≡ text "at type tag len\n0 OK 0001 0\n7 ERR 0028 2\n16 BAD - 1\n"
unfolding computes
example = refl

-- a capture of nothing
pub empty : listing [] ≡ text "at type tag len\n"
unfolding listing lines heading
empty = refl

-- a type that is none of the ten
pub unknown : listing (0x06 ∷ 0x07 ∷ 0xCD ∷ 0xAB ∷ 0x85 ∷ 0x2D ∷ 0x00 ∷ []) ≡ text "at type tag len\n0 ? ABCD 0\n"
unfolding computes
unknown = refl

-- a PING with tag zero: tags do not matter
pub no-tag : listing (0x02 ∷ 0x01 ∷ 0x01 ∷ 0x03 ∷ 0xAC ∷ 0xFB ∷ 0x00 ∷ []) ≡ text "at type tag len\n0 PING 0000 0\n"
unfolding computes
no-tag = refl

-- empty runs, an empty body, and a run that does not end
pub tail : listing (0x00 ∷ 0x00 ∷ 0x01 ∷ 0x00 ∷ 0x05 ∷ 0x01 ∷ []) ≡ text "at type tag len\n2 BAD - 1\n"
unfolding computes
tail = refl

-- a run of 283 bytes
pub long : listing (replicate 283 1 ++ (0 ∷ [])) ≡ text "at type tag len\n0 BAD - 283\n"
unfolding computes
long = refl
