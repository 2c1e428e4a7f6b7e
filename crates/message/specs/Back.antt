-- What it is for a message to come back as it was written, as a frame and as a body: demand 2.
-- Assumes nothing.
use Rattle.std.specs.Prelude.{ℕ, ◌≡◌, List, length}
use Rattle.buffer.specs.Lay.{lay}
use Rattle.cobs.specs.Encoding.{encoded}
use Rattle.frame.specs.Body.{body, payload_of}
use Rattle.frame.specs.Reading.{open_body}
use Rattle.frame.specs.declared.Opened.TheVariants as O
use Rattle.reader.specs.Reading.{receive_answer, receive_left}
use Rattle.wellformed.specs.declared.Kinds.{Kinds}

-- A reader of these types takes the frame, which is `encoded (body k t p)` and a zero, with this type, tag and payload, and has the body in its memory d.
pub record FrameBack (kinds : Kinds) (k t : ℕ) (p d : List ℕ) : Type 0 where
  pub answer : receive_answer kinds (encoded (body k t p)) (length d) ≡ O.Body k t (length p)
  pub memory : receive_left kinds (encoded (body k t p)) d ≡ lay 0 (body k t p) d
  pub payload : payload_of (body k t p) ≡ p

-- The body has this type, tag and payload, and its check value is right.
pub record BodyBack (k t : ℕ) (p : List ℕ) : Type 0 where
  pub answer : open_body (body k t p) ≡ O.Body k t (length p)
  pub payload : payload_of (body k t p) ≡ p
