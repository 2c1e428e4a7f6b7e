-- A piece adds one line for each byte at most. And how far a piece leads: by its length.
-- Assumes nothing.
use mathlib.Core.Path.{◌≡◌, ap, ◌∙◌}
use mathlib.Core.Bool.{Bool, true, false, cond}
use mathlib.Core.List.{List, [], ◌∷◌}
use Prim.Native.Nat.{ℕ, ◌+◌, ◌*◌, ◌≤◌}
use native.Mathlib.Omega.{arith}
use lib.Dec.{eqb, lit≤}
use lib.ListN.{length, length-append}
use Rattle.line.specs.Lines.{line_max}
use Rattle.line.proofs.Lengths.{length-line}
use Rattle.capture.specs.Stream.{open_run, line_run, RunSoFar, next, after_bytes, adds, run_so_far, fed}
use Rattle.capture.specs.declared.Stream.{Stream}

or-none : (t : Bool) (a b : List ℕ) → length a ≤ line_max → length b ≤ line_max → length (cond t a b) ≤ line_max
or-none true a b p q = p
or-none false a b p q = q

length_run : (at n : ℕ) (kept : List ℕ) → length (line_run at n kept) ≤ line_max
unfolding line_run
length_run at n kept = or-none (eqb n 0) [] _ (lit≤ tt) (length-line at (open_run n kept) n)

pub length-adds : (p : RunSoFar) (bs : List ℕ) → length (adds p bs) ≤ line_max * length bs
unfolding adds
length-adds p [] = lit≤ tt
length-adds p (b ∷ bs) =
    let h = or-none (eqb b 0) (line_run p.at p.len p.kept) [] (length_run p.at p.len p.kept) (lit≤ tt) in
    simp length-append (omega (arith, h, length-adds (next p b) bs))

goes_on : (p : RunSoFar) (bs : List ℕ) → (after_bytes p bs).at + (after_bytes p bs).len ≡ p.at + p.len + length bs
unfolding after_bytes next
goes_on p [] = omega arith
goes_on p (b ∷ bs) = goes_on (next p b) bs ∙ go (eqb b 0)
  where
    go : (t : Bool) → cond t (p.at + p.len + 1) p.at + cond t 0 (p.len + 1) + length bs ≡ p.at + p.len + length (b ∷ bs)
    go true = omega arith
    go false = omega arith

-- what a call of `feed` answers: all of its piece is counted, and the output is filled by a line for each byte at most
module _ (r s : Stream) (kept piece : List ℕ) (e : r ≡ fed s kept piece) where
  pub fed-goes-on : r.at + r.len ≡ s.at + s.len + length piece
  unfolding fed
  fed-goes-on = ap (λ (t : Stream). t.at + t.len) e ∙ goes_on (run_so_far s kept) piece

  pub fed-fills : r.filled ≤ s.filled + line_max * length piece
  unfolding fed
  fed-fills = omega (arith, ap (λ (t : Stream). t.filled) e, length-adds (run_so_far s kept) piece)
