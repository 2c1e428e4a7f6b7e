-- Whatever pieces a capture comes in, they add the lines of its listing.
-- The idea: the place after some bytes stands for the run that they leave; a run that is not kept whole is too long, and its line does not show
-- its bytes.
-- Assumes nothing.
use mathlib.Core.Path.{◌≡◌, refl, sym, ap, ap₂, ◌∙◌}
use mathlib.Core.Bool.{Bool, true, false, cond}
use mathlib.Core.Logic.{⊎_elim}
use mathlib.Core.List.{List, [], ◌∷◌, ◌++◌, append_assoc, flatten}
use Prim.Native.Nat.{ℕ, suc, ◌+◌, ◌<◌, ◌≤◌}
use native.Mathlib.Omega.{arith}
use borrow.Author.Tests.{lt-ltb, le-ltb, ne_eqb}
use lib.Dec.{ltb, eqb}
use lib.ListN.{length, take, set, length-append, length-take, length-set}
use lib.Seq.{take_at, take-suc-set}
use Rattle.status.specs.declared.Refusal.TheVariants as R
use Rattle.buffer.specs.Lay.{lay}
use Rattle.buffer.proofs.Deciding.{le-or-lt}
use Rattle.cobs.specs.Answers.{encoded_max}
use Rattle.frame.specs.Reading.{open_answer}
use Rattle.frame.specs.declared.Opened.TheVariants as O
use Rattle.line.specs.Lines.{line}
use Rattle.capture.specs.Listing.{heading, line_of, lines, listing}
use Rattle.capture.specs.Stream.{keep, open_run, line_run, RunSoFar, next, after_bytes, adds, adds_all, run_so_far, start_stream, fed}
use Rattle.capture.specs.declared.Stream.{Stream}
use Rattle.capture.proofs.Feeding.{place}

-- the memory has room, and has the run where that is not too long
record Holds (kept run : List ℕ) : Type 0 where
  room : encoded_max ≤ length kept
  whole : length run ≤ encoded_max → take (length run) kept ≡ run

holds-none : (kept : List ℕ) → encoded_max ≤ length kept → Holds kept []
holds-none kept h = record { room = h; whole = λ _. refl }

-- another byte of the run
holds_more : (kept run : List ℕ) (b : ℕ) → Holds kept run → Holds (keep (length run) b kept) (run ++ (b ∷ []))
unfolding keep
holds_more kept run b h = ⊎_elim long short (le-or-lt encoded_max (length run))
  where
    n : length (run ++ (b ∷ [])) ≡ suc (length run)
    n = simp length-append (omega arith)

    long : encoded_max ≤ length run → Holds (cond (ltb (length run) encoded_max) (set kept (length run) b) kept) (run ++ (b ∷ []))
    long l = simp (le-ltb _ _ l) (record { room = h.room; whole = λ (m : length (run ++ (b ∷ [])) ≤ encoded_max). absurd (omega (arith, n)) })

    short : length run < encoded_max → Holds (cond (ltb (length run) encoded_max) (set kept (length run) b) kept) (run ++ (b ∷ []))
    short l = simp (lt-ltb _ _ l)
        (record {
          room = rw length-set h.room;
          whole = λ _. rw n (take-suc-set kept (length run) b (omega (arith, h.room))
              ∙ ap (λ (r : List ℕ). r ++ (b ∷ [])) (h.whole (omega arith)));
        })

-- its line
too_long : (run : List ℕ) → encoded_max < length run → open_answer run encoded_max ≡ O.Refused R.Length
unfolding open_answer
too_long run l = simp (lt-ltb encoded_max (length run) l)

open-same : (kept run : List ℕ) → Holds kept run → open_run (length run) kept ≡ open_answer run encoded_max
unfolding open_run
open-same kept run h = ⊎_elim whole long (le-or-lt (length run) encoded_max)
  where
    whole : length run ≤ encoded_max → open_run (length run) kept ≡ open_answer run encoded_max
    whole l = simp (le-ltb encoded_max (length run) l) (ap (λ (r : List ℕ). open_answer r encoded_max) (h.whole l))

    long : encoded_max < length run → open_run (length run) kept ≡ open_answer run encoded_max
    long l = simp (lt-ltb encoded_max (length run) l) (sym (too_long run l))

line_same : (at : ℕ) (kept run : List ℕ) → Holds kept run → line_run at (length run) kept ≡ line_of at run
unfolding line_run line_of
line_same at kept [] h = refl
line_same at kept (x ∷ xs) h =
    rw (ne_eqb (suc (length xs)) 0 (λ (e : suc (length xs) ≡ 0). omega arith))
    (ap (λ o. line at o (length (x ∷ xs))) (open-same kept (x ∷ xs) h))

-- some bytes
adds_lines : (at : ℕ) (kept run bs : List ℕ) → Holds kept run → adds (place at (length run) kept) bs ≡ lines at run bs
unfolding adds lines line_of next
adds_lines at kept run [] h = refl
adds_lines at kept run (b ∷ bs) h = go (eqb b 0) (λ (a : ℕ) (k r : List ℕ). adds_lines a k r bs)
  where
    go : (t : Bool) → ((a : ℕ) (k r : List ℕ) → Holds k r → adds (place a (length r) k) bs ≡ lines a r bs)
        → cond t (line_run at (length run) kept) []
        ++ adds (place (cond t (at + length run + 1) at) (cond t 0 (length run + 1)) (cond t kept (keep (length run) b kept))) bs
        ≡ line_of at (cond t run []) ++ lines (cond t (at + length run + 1) at) (cond t [] (run ++ (b ∷ []))) bs
    go true ih = ap₂ (λ (x y : List ℕ). x ++ y) (line_same at kept run h) (ih (at + length run + 1) kept [] (holds-none kept h.room))
    go false ih =
        let n : length (run ++ (b ∷ [])) ≡ length run + 1 = simp length-append in
        rw n at (ih at (keep (length run) b kept) (run ++ (b ∷ [])) (holds_more kept run b h))

-- bytes after bytes
adds-append : (p : RunSoFar) (a b : List ℕ) → adds p (a ++ b) ≡ adds p a ++ adds (after_bytes p a) b
unfolding adds after_bytes
adds-append p [] b = refl
adds-append p (x ∷ a) b =
    let first = cond (eqb x 0) (line_run p.at p.len p.kept) [] in
    ap (λ (l : List ℕ). first ++ l) (adds-append (next p x) a b)
    ∙ sym (append_assoc first (adds (next p x) a) (adds (after_bytes (next p x) a) b))

adds-all : (p : RunSoFar) (pieces : List (List ℕ)) → adds_all p pieces ≡ adds p (flatten pieces)
unfolding adds_all flatten adds
adds-all p [] = refl
adds-all p (x ∷ xs) = ap (λ (l : List ℕ). adds p x ++ l) (adds-all (after_bytes p x) xs) ∙ sym (adds-append p x (flatten xs))

-- A call of `feed` leaves the place after its piece, and the next one starts there. How far the output is filled does not matter to it.
pub fed-place : (s : Stream) (kept piece : List ℕ)
    → run_so_far (fed s kept piece) (after_bytes (run_so_far s kept) piece).kept ≡ after_bytes (run_so_far s kept) piece
unfolding fed
fed-place s kept piece = refl

-- The theorem: from the start, in memory with room for 282 bytes, the pieces of a capture add the lines of its listing after the heading.
pub listed : (kept : List ℕ) (pieces : List (List ℕ)) → encoded_max ≤ length kept
    → heading ++ adds_all (run_so_far start_stream kept) pieces ≡ listing (flatten pieces)
unfolding listing start_stream
listed kept pieces h =
    ap (λ (l : List ℕ). heading ++ l) (adds-all (place 0 0 kept) pieces ∙ adds_lines 0 kept [] (flatten pieces) (holds-none kept h))

-- The output grows by what a call adds: what was in it up to where it is filled stays.
pub grows : (s : Stream) (kept piece out : List ℕ) → s.filled + length (adds (run_so_far s kept) piece) ≤ length out
    → take (fed s kept piece).filled (lay s.filled (adds (run_so_far s kept) piece) out) ≡ take s.filled out ++ adds (run_so_far s kept) piece
unfolding fed lay
grows s kept piece out h =
    let a = adds (run_so_far s kept) piece in
    rw (← append_assoc) (take_at (take s.filled out ++ a) _ (s.filled + length a) (simp (length-append, length-take) (omega arith)))
