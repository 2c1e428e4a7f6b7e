-- The definitions on the papers' examples and at their edges, by computing.
-- Assumes nothing.
use mathlib.Core.Path.{◌≡◌, refl}
use mathlib.Core.List.{[], ◌∷◌}
use lib.ListN.{replicate}
use Rattle.status.specs.declared.Refusal.TheVariants as R
use Rattle.crc16.specs.Crc.{bit, bits, byte, crc_from, crc_of}
use Rattle.cobs.specs.Encoding.{grouped, groups_bytes, encoded}
use Rattle.cobs.specs.Decoding.{has_zero, whole, broken, parts, groups, joined, decoded}
use Rattle.scalar.specs.Scalars.{le, number}
use Rattle.frame.specs.Body.{covered, body, frame}
use Rattle.frame.specs.Reading.{open_body, open_answer}
use Rattle.frame.specs.Stream.{runs}
use Rattle.frame.specs.declared.Opened.TheVariants as O

-- P C.2.1: PING 0001, its body and its frame
pub ping-body : body 0x01 0x0001 [] ≡ 0x01 ∷ 0x01 ∷ 0x00 ∷ 0x9D ∷ 0xC8 ∷ []
unfolding body covered le crc_of crc_from byte bits bit
ping-body = refl

pub ping-frame : frame (body 0x01 0x0001 []) ≡ 0x03 ∷ 0x01 ∷ 0x01 ∷ 0x03 ∷ 0x9D ∷ 0xC8 ∷ 0x00 ∷ []
unfolding frame encoded grouped groups_bytes body covered le crc_of crc_from byte bits bit
ping-frame = refl

-- OK 0033, with a zero in its check value
pub ok-frame : frame (body 0x80 0x0033 []) ≡ 0x03 ∷ 0x80 ∷ 0x33 ∷ 0x01 ∷ 0x02 ∷ 0xA7 ∷ 0x00 ∷ []
unfolding frame encoded grouped groups_bytes body covered le crc_of crc_from byte bits bit
ok-frame = refl

-- PING 0001 is read where the run has room, though its body has one byte less
pub ping-opens : open_answer (0x03 ∷ 0x01 ∷ 0x01 ∷ 0x03 ∷ 0x9D ∷ 0xC8 ∷ []) 6 ≡ O.Body 0x01 0x0001 0
unfolding open_answer open_body broken has_zero whole decoded groups parts joined number crc_of crc_from byte bits bit
ping-opens = refl

pub no_room : open_answer (0x03 ∷ 0x01 ∷ 0x01 ∷ 0x03 ∷ 0x9D ∷ 0xC8 ∷ []) 5 ≡ O.Refused R.Short
unfolding open_answer
no_room = refl

-- a group that reaches past the end
pub stuff : open_answer (0x05 ∷ []) 6 ≡ O.Refused R.Stuff
unfolding open_answer broken has_zero whole
stuff = refl

-- an empty body
pub empty : open_answer (0x01 ∷ []) 6 ≡ O.Refused R.Length
unfolding open_answer open_body broken has_zero whole decoded groups parts joined
empty = refl

-- a body of 281 bytes, one more than the longest
pub too_long : open_answer (replicate 282 1) 282 ≡ O.Refused R.Length
unfolding open_answer open_body broken has_zero whole decoded groups parts joined
too_long = refl

-- PING 0001 with another check value
pub check : open_answer (0x03 ∷ 0x01 ∷ 0x01 ∷ 0x03 ∷ 0x9D ∷ 0xC9 ∷ []) 6 ≡ O.Refused R.Check
unfolding open_answer open_body broken has_zero whole decoded groups parts joined number crc_of crc_from byte bits bit
check = refl

-- two runs, of which the second is empty, and a byte that no zero ends
pub two_runs : runs [] (3 ∷ 1 ∷ 0 ∷ 0 ∷ 5 ∷ []) ≡ (3 ∷ 1 ∷ []) ∷ [] ∷ []
unfolding runs
two_runs = refl
