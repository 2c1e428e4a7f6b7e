-- What reading a run answers, and what it leaves of the lent memory: 01 "Numbers that come back", in its order 6 (source), 4, 5, 6 (body), 7.
-- A run is what stands before a frame's zero.
-- Assumes nothing.
use Rattle.std.specs.Prelude.{ℕ, ◌-◌, cond, List, ltb, eqb, length}
use Rattle.status.specs.Refusals.{refusal_number}
use Rattle.status.specs.Result.{Result, took, refused_with}
use Rattle.status.specs.declared.Refusal.TheVariants as R
use Rattle.buffer.specs.Lay.{lay}
use Rattle.crc16.specs.Crc.{crc_of}
use Rattle.cobs.specs.Decoding.{broken, decoded}
use Rattle.cobs.specs.Answers.{body_max, encoded_max, decode_left}
use Rattle.frame.specs.Body.{overhead, kind_of, tag_of, check_of, covered_of}
use Rattle.frame.specs.declared.Opened.{Opened}
use Rattle.frame.specs.declared.Opened.TheVariants as O

-- a body: its length is 5 to 280, and its check value the right one
unfoldable pub open_body : List ℕ → Opened
open_body b =
    cond (ltb (length b) overhead) (O.Refused R.Length)
    (cond (ltb body_max (length b)) (O.Refused R.Length)
    (cond (eqb (crc_of (covered_of b)) (check_of b)) (O.Body (kind_of b) (tag_of b) (length b - overhead))
    (O.Refused R.Check)))

-- a run, read into so much room
unfoldable pub open_answer : List ℕ → ℕ → Opened
open_answer run room =
    cond (ltb encoded_max (length run)) (O.Refused R.Length)
    (cond (ltb room (length run)) (O.Refused R.Short)
    (cond (broken run) (O.Refused R.Stuff)
    (open_body (decoded run))))

-- what a body begins with, and how long its payload is
pub record Head : Type 0 where
  pub kind : ℕ
  pub tag : ℕ
  pub len : ℕ

-- what comes back: 01's number, and the head of the body
abbrev pub opened_result : Opened → Result Head
opened_result (O.Body kind tag n) = took record { kind = kind; tag = tag; len = n }
opened_result (O.Refused r) = refused_with (refusal_number r)

-- The lent memory d after an answer: the body from its start on, with the bytes past it as they were. A refusal leaves all of it.
abbrev pub opens : Opened → List ℕ → List ℕ → List ℕ
opens (O.Body kind tag n) run d = lay 0 (decoded run) d
opens (O.Refused r) run d = d

unfoldable pub open_left : List ℕ → List ℕ → List ℕ
open_left run d = opens (open_answer run (length d)) run d

-- Working memory after a run was looked at for so much room: decoded, where it is neither too long nor the room too small.
unfoldable pub unpack_left : List ℕ → ℕ → List ℕ → List ℕ
unpack_left run room d =
    cond (ltb encoded_max (length run)) d
    (cond (ltb room (length run)) d
    (decode_left run d))
