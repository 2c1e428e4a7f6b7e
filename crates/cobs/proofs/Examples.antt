-- The definitions on the papers' examples and at their edges, by computing.
-- Assumes nothing.
use mathlib.Core.Path.{◌≡◌, refl}
use mathlib.Core.Bool.{true, false}
use mathlib.Core.List.{[], ◌∷◌, ◌++◌}
use lib.ListN.{length, replicate}
use Rattle.cobs.specs.Encoding.{grouped, groups_bytes, encoded, worst}
use Rattle.cobs.specs.Decoding.{has_zero, whole, broken, parts, groups, joined, decoded}
use Rattle.cobs.specs.Answers.{body_max, encoded_max}

-- P C.2.1: the body of PING 0001
pub ping : encoded (0x01 ∷ 0x01 ∷ 0x00 ∷ 0x9D ∷ 0xC8 ∷ []) ≡ 0x03 ∷ 0x01 ∷ 0x01 ∷ 0x03 ∷ 0x9D ∷ 0xC8 ∷ []
unfolding encoded grouped groups_bytes
ping = refl

-- no bytes become 01
pub empty : encoded [] ≡ 1 ∷ []
unfolding encoded grouped groups_bytes
empty = refl

-- a full group at the end has its closing 01; without a zero 280 bytes become 282
pub closed : encoded (replicate 254 7) ≡ 255 ∷ (replicate 254 7 ++ (1 ∷ []))
unfolding encoded grouped groups_bytes
closed = refl

pub longest : length (encoded (replicate 280 7)) ≡ 282
unfolding encoded grouped groups_bytes
longest = refl

-- so the longest encoding is the longest body's worst case
pub limits : worst body_max ≡ encoded_max
limits = refl

-- 01's sheet: 05 and nothing are STUFF; 01 is the empty body
pub five : broken (5 ∷ []) ≡ true
unfolding broken has_zero whole
five = refl

pub nothing : broken [] ≡ true
unfolding broken
nothing = refl

pub one : (broken (1 ∷ []) ≡ false) × (decoded (1 ∷ []) ≡ [])
unfolding broken has_zero whole decoded groups parts joined
one = (refl, refl)

-- a zero inside a group is STUFF, though P appendix A copies it
pub inside : broken (3 ∷ 7 ∷ 0 ∷ []) ≡ true
unfolding broken has_zero
inside = refl

-- a full group is taken without its closing 01 too
pub unclosed : (broken (255 ∷ replicate 254 7) ≡ false) × (decoded (255 ∷ replicate 254 7) ≡ replicate 254 7)
unfolding broken has_zero whole decoded groups parts joined
unclosed = (refl, refl)

-- 282 bytes in short groups stand for 281, one more than the longest body
pub too_long : (broken (replicate 282 1) ≡ false) × (length (decoded (replicate 282 1)) ≡ 281)
unfolding broken has_zero whole decoded groups parts joined
too_long = (refl, refl)
