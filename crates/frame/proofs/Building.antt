-- What is left of lent memory while a body or a frame is written: the bytes so far, laid from the start on.
-- Assumes nothing.
use mathlib.Core.Path.{◌≡◌, ap, ◌∙◌}
use mathlib.Core.List.{List, [], ◌∷◌, ◌++◌}
use Prim.Native.Nat.{ℕ, ◌+◌, ◌≤◌}
use native.Mathlib.Nat.{zero-add}
use native.Mathlib.Omega.{arith}
use lib.ListN.{length, take, set, length-append}
use Rattle.buffer.specs.Lay.{lay}
use Rattle.buffer.proofs.Laws.{lay-lay, lay-next}
use Rattle.buffer.proofs.Laying.{start, piece, byte, done}
use Rattle.crc16.specs.Crc.{crc_of}
use Rattle.cobs.specs.Encoding.{encoded}
use Rattle.scalar.specs.Scalars.{le}
use Rattle.frame.specs.Body.{covered, body, frame}
use Rattle.frame.proofs.Laws.{take-laid, length-covered, length-body}

module _ (k t : ℕ) (p d : List ℕ) where
  -- type, tag, payload
  pub covered-laid : length (covered k t p) ≤ length d → lay 3 p (lay 1 (le 2 t) (set d 0 k)) ≡ lay 0 (covered k t p) d
  unfolding covered le
  covered-laid h =
      ap (lay 3 p) (lay-next 0 k (le 2 t) d (omega arith)) ∙ lay-lay 0 (k ∷ le 2 t) d (omega arith) p

  -- what the check value is made of
  pub covered-read : take (3 + length p) (lay 0 (covered k t p) d) ≡ covered k t p
  covered-read =
      let n : length (covered k t p) ≡ 3 + length p = omega (arith, length-covered k t p) in
      rw (← n) (take-laid (covered k t p) d)

  -- and the check value
  pub body-laid : length (body k t p) ≤ length d
      → lay (3 + length p) (le 2 (crc_of (covered k t p))) (lay 0 (covered k t p) d) ≡ lay 0 (body k t p) d
  unfolding body
  body-laid h =
      let c = covered k t p in
      let n : 0 + length c ≡ 3 + length p = omega (arith, length-covered k t p) in
      rw (← n) (lay-lay 0 c d (omega (arith, length-body k t p)) (le 2 (crc_of c)))

-- the encoded body, and the zero after it
pub frame-laid : (b d : List ℕ) → length (frame b) ≤ length d → set (lay 0 (encoded b) d) (length (encoded b)) 0 ≡ lay 0 (frame b) d
unfolding frame
frame-laid b d h =
    rw (zero-add (length (encoded b))) at (done (byte (piece (encoded b) (start 0 (encoded b ++ 0 ∷ []) d (omega arith)))))

pub length-frame : (b : List ℕ) → length (frame b) ≡ length (encoded b) + 1
unfolding frame
length-frame b = length-append (encoded b) (0 ∷ [])
