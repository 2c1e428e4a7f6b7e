-- What one turn of the program leaves, so that the next one can go on and the loop ends. What is read and written, no contract can say.
-- Assumes nothing.
use Rattle.std.specs.Prelude.{ℕ, ◌+◌, ◌-◌, ◌*◌, ◌^◌, ◌≤◌, ◌<◌}
use Rattle.line.specs.Lines.{line_max}
use Rattle.capture.specs.declared.Stream.{Stream}
use Rattle.listing.specs.declared.Turn.{Turn}
use Rattle.listing.specs.declared.Turn.TheVariants as T

-- the most bytes of one read
abbrev pub piece_max : ℕ
piece_max = 4096

-- the output's length
abbrev pub output : ℕ
output = 262144

-- above this the output has no room for another piece
abbrev pub filled_max : ℕ
filled_max = output - line_max * piece_max

-- so many bytes are listed at most
abbrev pub listed_max : ℕ
listed_max = 2 ^ 62

-- a turn that is not the last took some bytes, and left room for another piece
abbrev pub Goes : Stream → Turn → Type 0
Goes s (T.More u) = (s.at + s.len < u.at + u.len) × (u.at + u.len ≤ s.at + s.len + piece_max) × (u.filled ≤ filled_max)
Goes s T.Done = Unit {0}
