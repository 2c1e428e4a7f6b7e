-- The listing of a capture: 01 "Sheet of known values", its last part.
-- A capture is bytes from the wire. A zero ends a run; the bytes before it are the run.
-- Assumes nothing.
use Rattle.std.specs.Prelude.{ℕ, ◌+◌, cond, List, [], ◌∷◌, ◌++◌, eqb, length}
use Rattle.cobs.specs.Answers.{encoded_max}
use Rattle.frame.specs.Reading.{open_answer}
use Rattle.text.specs.Text.{text}
use Rattle.line.specs.Lines.{line}

unfoldable pub heading : List ℕ
heading = text "at type tag len\n"

-- the line of a whole run; an empty run has none
unfoldable pub line_of : ℕ → List ℕ → List ℕ
line_of at [] = []
line_of at (b ∷ bs) = line at (open_answer (b ∷ bs) encoded_max) (length (b ∷ bs))

-- The lines of the runs in some bytes, where a run began at an offset before them and has these bytes so far.
-- A zero ends it, and the next one begins past the zero; any other byte joins it. A run that no zero ends has no line.
unfoldable pub lines : ℕ → List ℕ → List ℕ → List ℕ
lines at run [] = []
lines at run (b ∷ bs) =
    line_of at (cond (eqb b 0) run [])
    ++ lines (cond (eqb b 0) (at + length run + 1) at) (cond (eqb b 0) [] (run ++ (b ∷ []))) bs

-- what is printed for a capture
unfoldable pub listing : List ℕ → List ℕ
listing capture = heading ++ lines 0 [] capture
