-- The listing piece by piece: what is kept between two pieces of a capture, and what each piece adds to the output.
-- proofs/Pieces.antt joins it to `listing`.
-- Assumes nothing.
use Rattle.std.specs.Prelude.{ℕ, ◌+◌, cond, List, [], ◌∷◌, ◌++◌, ltb, eqb, length, take, set}
use Rattle.status.specs.declared.Refusal.TheVariants as R
use Rattle.cobs.specs.Answers.{encoded_max}
use Rattle.frame.specs.Reading.{open_answer}
use Rattle.frame.specs.declared.Opened.{Opened}
use Rattle.frame.specs.declared.Opened.TheVariants as O
use Rattle.line.specs.Lines.{line}
use Rattle.capture.specs.Listing.{heading}
use Rattle.capture.specs.declared.Stream.{Stream}

-- ---- one run

-- the memory with the byte b of a run that has n bytes before it: none past the 282nd is kept
unfoldable pub keep : ℕ → ℕ → List ℕ → List ℕ
keep n b kept = cond (ltb n encoded_max) (set kept n b) kept

-- what opening a run of n bytes answers, whose first are kept: a longer one than 282 is refused, whatever its bytes
unfoldable pub open_run : ℕ → List ℕ → Opened
open_run n kept = cond (ltb encoded_max n) (O.Refused R.Length) (open_answer (take n kept) encoded_max)

-- its line, at an offset; an empty run has none
unfoldable pub line_run : ℕ → ℕ → List ℕ → List ℕ
line_run at n kept = cond (eqb n 0) [] (line at (open_run n kept) n)

-- ---- a capture

-- where a capture stands: the offset of the run, its length so far, and the memory with its first bytes
pub record RunSoFar : Type 0 where
  pub at : ℕ
  pub len : ℕ
  pub kept : List ℕ

-- after the byte b: a zero ends the run, and the next one begins past it
unfoldable pub next : RunSoFar → ℕ → RunSoFar
next p b =
    record {
      at = cond (eqb b 0) (p.at + p.len + 1) p.at;
      len = cond (eqb b 0) 0 (p.len + 1);
      kept = cond (eqb b 0) p.kept (keep p.len b p.kept);
    }

-- after a piece
unfoldable pub after_bytes : RunSoFar → List ℕ → RunSoFar
after_bytes p [] = p
after_bytes p (b ∷ bs) = after_bytes (next p b) bs

-- the lines that a piece adds
unfoldable pub adds : RunSoFar → List ℕ → List ℕ
adds p [] = []
adds p (b ∷ bs) = cond (eqb b 0) (line_run p.at p.len p.kept) [] ++ adds (next p b) bs

-- the lines that pieces add, one after another
unfoldable pub adds_all : RunSoFar → List (List ℕ) → List ℕ
adds_all p [] = []
adds_all p (piece ∷ pieces) = adds p piece ++ adds_all (after_bytes p piece) pieces

-- ---- what the code holds of it

abbrev pub run_so_far : Stream → List ℕ → RunSoFar
run_so_far s kept = record { at = s.at; len = s.len; kept = kept }

-- before the first piece, with the heading in the output
unfoldable pub start_stream : Stream
start_stream = record { at = 0; len = 0; filled = length heading }

-- after a piece
unfoldable pub fed : Stream → List ℕ → List ℕ → Stream
fed s kept piece =
    record {
      at = (after_bytes (run_so_far s kept) piece).at;
      len = (after_bytes (run_so_far s kept) piece).len;
      filled = s.filled + length (adds (run_so_far s kept) piece);
    }
