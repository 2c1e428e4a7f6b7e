-- What writing a message answers, and what it leaves of the destination: 01 "Numbers that come back", in its order 8, 10, 4. A type that is a number may be
-- none of the writer's: that is 9, before 10.
-- Assumes nothing.
use Rattle.std.specs.Prelude.{ℕ, List, length}
use Rattle.frame.specs.Body.{body, frame}
use Rattle.frame.specs.Writing.{build_answer, frame_answer, left}
use Rattle.frame.specs.declared.Written.{Written}
use Rattle.frame.specs.declared.Written.TheVariants as W
use Rattle.wellformed.specs.Checking.{fits_written, check}
use Rattle.wellformed.specs.declared.Kinds.{Kinds}
use Rattle.wellformed.specs.declared.Checked.{Checked}
use Rattle.wellformed.specs.declared.Checked.TheVariants as J

-- what the frame's writer answers, or why the message is refused before
abbrev pub where_good : Checked → Written → Written
where_good J.Good written = written
where_good (J.Refused r) written = W.Refused r

-- building a message's body in so much room
unfoldable pub body_answer : Kinds → ℕ → ℕ → List ℕ → ℕ → Written
body_answer kinds kind tag p room = where_good (check kinds kind tag (fits_written kinds kind p)) (build_answer p room)

unfoldable pub body_left : Kinds → ℕ → ℕ → List ℕ → List ℕ → List ℕ
body_left kinds kind tag p d = left (body_answer kinds kind tag p (length d)) (body kind tag p) d

-- writing its whole frame
unfoldable pub write_answer : Kinds → ℕ → ℕ → List ℕ → ℕ → Written
write_answer kinds kind tag p room = where_good (check kinds kind tag (fits_written kinds kind p)) (frame_answer (body kind tag p) room)

unfoldable pub write_left : Kinds → ℕ → ℕ → List ℕ → List ℕ → List ℕ
write_left kinds kind tag p d = left (write_answer kinds kind tag p (length d)) (frame (body kind tag p)) d
