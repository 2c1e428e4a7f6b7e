-- The laws of frames on the wire, for all bytes: a frame is one run, the encoding of its body, and is no longer than the worst case.
-- The idea: an encoding has no zero, so each of its bytes joins the run, and the frame's own zero ends it.
-- Assumes nothing.
use mathlib.Core.Path.{◌≡◌, refl, ap, ◌∙◌}
use mathlib.Core.Bool.{false}
use mathlib.Core.List.{List, [], ◌∷◌, ◌++◌, append-nil}
use Prim.Native.Nat.{ℕ, ◌+◌, ◌≤◌}
use native.Mathlib.Omega.{arith}
use lib.Dec.{eqb}
use lib.ListN.{length}
use lib.Seq.{append_snoc}
use Rattle.buffer.proofs.Deciding.{neither}
use Rattle.cobs.specs.Encoding.{encoded, worst}
use Rattle.cobs.specs.Decoding.{has_zero}
use Rattle.cobs.proofs.Laws.{no_zero, length-bound}
use Rattle.frame.specs.Body.{body, overhead, frame}
use Rattle.frame.specs.Stream.{runs}
use Rattle.frame.proofs.Laws.{length-body}
use Rattle.frame.proofs.Building as B

-- one byte: a zero ends the run, any other joins it
pub runs-zero : (run bs : List ℕ) → runs run (0 ∷ bs) ≡ run ∷ runs [] bs
unfolding runs
runs-zero run bs = refl

pub runs-byte : (run : List ℕ) (b : ℕ) (bs : List ℕ) → eqb b 0 ≡ false → runs run (b ∷ bs) ≡ runs (run ++ b ∷ []) bs
unfolding runs
runs-byte run b bs h = simp h

-- bytes without a zero, and the zero that ends them
pub runs-ended : (run xs bs : List ℕ) → has_zero xs ≡ false → runs run (xs ++ 0 ∷ bs) ≡ (run ++ xs) ∷ runs [] bs
unfolding has_zero
runs-ended run [] bs h = rw (append-nil run) (runs-zero run bs)
runs-ended run (x ∷ xs) bs h =
    let n = neither (eqb x 0) (has_zero xs) h in
    runs-byte run x (xs ++ 0 ∷ bs) n.0 ∙ runs-ended (run ++ x ∷ []) xs bs n.1
    ∙ ap (λ (r : List ℕ). r ∷ runs [] bs) (append_snoc run x xs)

-- a frame is one run: the encoding of its body
pub runs-frame : (b bs : List ℕ) → runs [] (frame b ++ bs) ≡ encoded b ∷ runs [] bs
unfolding frame
runs-frame b bs = ap (runs []) (append_snoc (encoded b) 0 bs) ∙ runs-ended [] (encoded b) bs (no_zero b)

-- the most that a payload becomes on the wire
pub length-frame : (k t : ℕ) (p : List ℕ) → length (frame (body k t p)) ≤ worst (length p + overhead) + 1
length-frame k t p = rw (B.length-frame (body k t p), ← length-body k t p) (omega (arith, length-bound (body k t p)))
