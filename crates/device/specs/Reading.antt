-- Bytes on the wire as anyone outside reads them, from the host and to it: P 2.5; 01 "A run of bytes becomes a frame", step 1.
-- Assumes nothing.
use Rattle.std.specs.Prelude.{ℕ, zero, suc, List, [], ◌∷◌, ◌++◌}
use Rattle.cobs.specs.Decoding.{decoded}
use Rattle.cobs.specs.Answers.{encoded_max}
use Rattle.frame.specs.Body.{payload_of}
use Rattle.frame.specs.Reading.{open_answer}
use Rattle.frame.specs.Stream.{runs}
use Rattle.frame.specs.declared.Opened.{Opened}
use Rattle.frame.specs.declared.Opened.TheVariants as O
use Rattle.device.specs.Messages.{Frame, frame}
use Rattle.device.specs.Frames.{Received, damaged, command}

-- ---- frames

-- of a run that is too long, or whose stuffing, length or check is wrong, there is none
abbrev pub found : Opened → List ℕ → List Frame
found (O.Body k t n) p = frame k t p ∷ []
found (O.Refused r) p = []

unfoldable pub frame_in : List ℕ → List Frame
frame_in run = found (open_answer run encoded_max) (payload_of (decoded run))

unfoldable pub frames_in : List (List ℕ) → List Frame
frames_in [] = []
frames_in (r ∷ rs) = frame_in r ++ frames_in rs

-- the frames in some bytes
unfoldable pub frames : List ℕ → List Frame
frames bs = frames_in (runs [] bs)

-- ---- what a run from the host brings

-- it fails step 1 where there is no frame, or its tag is zero
abbrev pub tagged : List Frame → Received
tagged [] = damaged
tagged (frame k zero p ∷ fs) = damaged
tagged (frame k (suc t) p ∷ fs) = command k (suc t) p

unfoldable pub brings : List ℕ → Received
brings run = tagged (frame_in run)
