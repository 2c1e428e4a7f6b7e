-- What writing answers, and what it leaves of the destination: 01 "Bytes on the wire" and "Numbers that come back".
-- The room must be the body's length for a body, and for a frame the worst case of its body and one for the zero. LENGTH comes before SHORT.
-- Assumes nothing.
use Rattle.std.specs.Prelude.{ℕ, ◌+◌, cond, List, ltb, length}
use Rattle.status.specs.Refusals.{refusal_number}
use Rattle.status.specs.Result.{Result, took, refused_with}
use Rattle.status.specs.declared.Refusal.TheVariants as R
use Rattle.buffer.specs.Lay.{lay}
use Rattle.cobs.specs.Encoding.{worst}
use Rattle.cobs.specs.Answers.{body_max}
use Rattle.frame.specs.Body.{body, overhead, payload_max, frame}
use Rattle.frame.specs.declared.Written.{Written}
use Rattle.frame.specs.declared.Written.TheVariants as W

-- building the body of a payload in so much room
unfoldable pub build_answer : List ℕ → ℕ → Written
build_answer payload room =
    cond (ltb payload_max (length payload)) (W.Refused R.Length)
    (cond (ltb room (length payload + overhead)) (W.Refused R.Short)
    (W.Done (length payload + overhead)))

-- writing the frame of the body b into so much room
unfoldable pub frame_answer : List ℕ → ℕ → Written
frame_answer b room =
    cond (ltb (length b) overhead) (W.Refused R.Length)
    (cond (ltb body_max (length b)) (W.Refused R.Length)
    (cond (ltb room (worst (length b) + 1)) (W.Refused R.Short)
    (W.Done (length (frame b)))))

-- what comes back: 01's number, and how many bytes were written
abbrev pub written_result : Written → Result ℕ
written_result (W.Done n) = took n
written_result (W.Refused r) = refused_with (refusal_number r)

-- The destination d after an answer, where `bs` was to be written: from its start on, with the bytes past that as they were. A refusal leaves all of it.
abbrev pub left : Written → List ℕ → List ℕ → List ℕ
left (W.Done n) bs d = lay 0 bs d
left (W.Refused r) bs d = d

unfoldable pub build_left : ℕ → ℕ → List ℕ → List ℕ → List ℕ
build_left kind tag payload d = left (build_answer payload (length d)) (body kind tag payload) d

unfoldable pub frame_left : List ℕ → List ℕ → List ℕ
frame_left b d = left (frame_answer b (length d)) (frame b) d
