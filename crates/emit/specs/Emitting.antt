-- Frames in lent output: what is written, and where it ends.
-- Assumes nothing.
use Rattle.std.specs.Prelude.{ℕ, ◌+◌, ◌≡◌, List, [], ◌∷◌, ◌++◌, length}
use Rattle.buffer.specs.Lay.{lay}
use Rattle.frame.specs.Body.{body}
use Rattle.frame.specs.Body as B
use Rattle.device.specs.Messages.{Frame, frame}

-- the bytes of a frame, by its type, tag and payload
unfoldable pub bytes_of : Frame → List ℕ
bytes_of (frame k t p) = B.frame (body k t p)

-- of several, one after another
unfoldable pub frames_bytes : List Frame → List ℕ
frames_bytes [] = []
frames_bytes (f ∷ fs) = bytes_of f ++ frames_bytes fs

-- the room that an OK without a payload, an ERR and a TX_DONE ask for: the worst case of 5, 7 and 10 bytes of body, and the zero
abbrev pub ok_room : ℕ
ok_room = 7

abbrev pub err_room : ℕ
err_room = 9

abbrev pub done_room : ℕ
done_room = 12

-- f stands in the output o' from index `at` on and ends at r; the rest of it is as it was in o
pub record Writes (f : Frame) (o : List ℕ) (at r : ℕ) (o' : List ℕ) : Type 0 where
  pub ends : r ≡ at + length (bytes_of f)
  pub lays : o' ≡ lay at (bytes_of f) o
