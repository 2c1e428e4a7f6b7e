-- What encoding and decoding answer, in the order of 01 "Bytes on the wire"; what they leave of the destination, and what comes back of each answer, by
-- 01 "Numbers that come back".
-- Assumes nothing.
use Rattle.std.specs.Prelude.{ℕ, cond, List, ltb, length}
use Rattle.status.specs.Numbers.{SHORT, STUFF, LENGTH}
use Rattle.status.specs.Result.{Result, took, refused_with}
use Rattle.buffer.specs.Lay.{lay}
use Rattle.cobs.specs.Encoding.{encoded, worst}
use Rattle.cobs.specs.Decoding.{broken, decoded}
use Rattle.cobs.specs.declared.Encoded.{Encoded}
use Rattle.cobs.specs.declared.Encoded.TheVariants as E
use Rattle.cobs.specs.declared.Decoded.{Decoded}
use Rattle.cobs.specs.declared.Decoded.TheVariants as D

-- the longest body, and the most that it becomes
abbrev pub body_max : ℕ
body_max = 280

abbrev pub encoded_max : ℕ
encoded_max = 282

-- encoding s into so much room: LENGTH, then SHORT
unfoldable pub encode_answer : List ℕ → ℕ → Encoded
encode_answer s room =
    cond (ltb body_max (length s)) E.Length
    (cond (ltb room (worst (length s))) E.Short
    (E.Done (length (encoded s))))

-- decoding s into so much room: LENGTH, then SHORT, then STUFF
unfoldable pub decode_answer : List ℕ → ℕ → Decoded
decode_answer s room =
    cond (ltb encoded_max (length s)) D.Length
    (cond (ltb room (length s)) D.Short
    (cond (broken s) D.Stuff
    (D.Done (length (decoded s)))))

-- The destination d afterwards: what was written from its start on, with the bytes past that as they were.
-- A refusal leaves all of it.
abbrev encode_by : Encoded → List ℕ → List ℕ → List ℕ
encode_by (E.Done n) s d = lay 0 (encoded s) d
encode_by E.Short s d = d
encode_by E.Length s d = d

unfoldable pub encode_left : List ℕ → List ℕ → List ℕ
encode_left s d = encode_by (encode_answer s (length d)) s d

abbrev decode_by : Decoded → List ℕ → List ℕ → List ℕ
decode_by (D.Done n) s d = lay 0 (decoded s) d
decode_by D.Short s d = d
decode_by D.Stuff s d = d
decode_by D.Length s d = d

unfoldable pub decode_left : List ℕ → List ℕ → List ℕ
decode_left s d = decode_by (decode_answer s (length d)) s d

-- what comes back: 01's number, and how many bytes were written
abbrev pub encoded_result : Encoded → Result ℕ
encoded_result (E.Done n) = took n
encoded_result E.Short = refused_with SHORT
encoded_result E.Length = refused_with LENGTH

abbrev pub decoded_result : Decoded → Result ℕ
decoded_result (D.Done n) = took n
decoded_result D.Short = refused_with SHORT
decoded_result D.Stuff = refused_with STUFF
decoded_result D.Length = refused_with LENGTH
