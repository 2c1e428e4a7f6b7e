-- What reading a message answers, and what it leaves of the lent memory: 01 "Numbers that come back", in its order 6 (source), 4, 5, 6 (body), 7, 8, 9, 10.
-- Assumes nothing.
use Rattle.std.specs.Prelude.{ℕ, List, [], length}
use Rattle.std.proofs.Math.Option.{Option, none, some}
use Rattle.cobs.specs.Decoding.{decoded}
use Rattle.frame.specs.Body.{payload_of}
use Rattle.frame.specs.Reading.{Head, open_answer, opens}
use Rattle.frame.specs.declared.Opened.{Opened}
use Rattle.frame.specs.declared.Opened.TheVariants as O
use Rattle.wellformed.specs.Checking.{fits_read, check}
use Rattle.wellformed.specs.declared.Kinds.{Kinds}
use Rattle.wellformed.specs.declared.Checked.{Checked}
use Rattle.wellformed.specs.declared.Checked.TheVariants as J

-- a body that was opened, or why it is refused all the same
abbrev pub if_wellformed : Checked → Opened → Opened
if_wellformed J.Good opened = opened
if_wellformed (J.Refused r) opened = O.Refused r

abbrev pub sifted : Kinds → List ℕ → Opened → Opened
sifted kinds b (O.Body kind tag n) = if_wellformed (check kinds kind tag (fits_read kinds kind (payload_of b))) (O.Body kind tag n)
sifted kinds b (O.Refused r) = O.Refused r

-- reading a run into so much room
unfoldable pub receive_answer : Kinds → List ℕ → ℕ → Opened
receive_answer kinds run room = sifted kinds (decoded run) (open_answer run room)

-- the lent memory afterwards: the body, or all as it was
unfoldable pub receive_left : Kinds → List ℕ → List ℕ → List ℕ
receive_left kinds run d = opens (receive_answer kinds run (length d)) run d

-- What comes back one by one, beside the number. A refused read hands back an empty part, and of type and tag what stood there.
abbrev pub kind_by : Option Head → ℕ → ℕ
kind_by none old = old
kind_by (some h) old = h.kind

abbrev pub tag_by : Option Head → ℕ → ℕ
tag_by none old = old
tag_by (some h) old = h.tag

-- the part of a body b that is handed back
abbrev pub part_by : Option Head → List ℕ → List ℕ
part_by none b = []
part_by (some h) b = payload_of b
