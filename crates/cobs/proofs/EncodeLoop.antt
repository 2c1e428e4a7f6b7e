-- The loop of `encode_into`: the encoding of the source from r on is the rest that is laid, and each turn lays one group.
-- The group's bytes are written first, and then its code before them.
-- Assumes nothing.
use mathlib.Core.Path.{◌≡◌, sym, ap, ◌∙◌}
use mathlib.Core.List.{List, [], ◌∷◌, ◌++◌}
use Prim.Native.Nat.{ℕ, suc, ◌+◌, ◌-◌, ◌<◌, ◌≤◌}
use native.Mathlib.Omega.{arith}
use lib.ListN.{length, take, drop, set, length-drop}
use lib.Seq.{drop-drop, take_all}
use Rattle.buffer.specs.Lay.{lay}
use Rattle.buffer.proofs.Laws.{length-lay, set-lay}
use Rattle.buffer.proofs.Laying.{Laying, start, fits, piece}
use Rattle.cobs.specs.Groups.{full}
use Rattle.cobs.specs.Encoding.{grouped, group, groups_bytes, encoded, worst}
use Rattle.cobs.proofs.Cases.{others}
use Rattle.cobs.proofs.Cutting.{Cut, cut-is, encoded-split}
use Rattle.cobs.proofs.Laws.{length-bound}

pub record Encoding (src dst₀ dst : List ℕ) (r w : ℕ) : Type 0 where
  pub inside : r ≤ length src
  pub laying : Laying 0 (encoded src) dst₀ w (encoded (drop r src)) dst

pub begin : (src dst : List ℕ) → worst (length src) ≤ length dst → Encoding src dst dst 0 0
begin src dst h =
    let l = length-bound src in
    record { inside = omega arith; laying = start 0 (encoded src) dst (omega arith) }

-- the source from r on, as the code cuts it out
abbrev from : List ℕ → ℕ → List ℕ
from src r = take (length src - r) (drop r src)

module _ {src dst₀ dst : List ℕ} {r w : ℕ} (i : Encoding src dst₀ dst r w) where
  abbrev xs : List ℕ
  xs = from src r

  abbrev g : List ℕ
  g = group xs

  from_is : xs ≡ drop r src
  from_is = take_all (length src - r) (drop r src) (simp length-drop (omega arith))

  long : length xs + r ≡ length src
  long = ap (λ (l : List ℕ). length l + r) from_is ∙ simp length-drop (omega (arith, i.inside))

  shape : Cut 0 xs (grouped 0 xs)
  shape = cut-is 0 xs (omega arith)

  -- the group with its code, and the others, are still to be laid
  ahead : Laying 0 (encoded src) dst₀ w (((length g + 1) ∷ g) ++ groups_bytes (others (grouped 0 xs))) dst
  ahead = rw (sym from_is, encoded-split xs) at i.laying

  -- the group has its bytes in the source, and room with its code in the destination
  pub bounds : (length g ≤ full) × (r + length g ≤ length src) × (w + 1 + length g ≤ length dst)
  unfolding group
  bounds =
      let f = fits ((length g + 1) ∷ g) _ ahead in
      (omega (arith, shape.small), omega (arith, shape.inside, long), omega arith)

  -- k bytes of the group were copied, which left d
  module _ {k : ℕ} {d : List ℕ} (n : k ≡ length g) (l : d ≡ lay (w + 1) g dst) where
    pub code_fits : w < length d
    code_fits = omega (arith, ap length l, length-lay (w + 1) g dst bounds.2, bounds.2)

    laid : Laying 0 (encoded src) dst₀ (w + (k + 1)) (groups_bytes (others (grouped 0 xs))) (set d w (k + 1))
    laid =
        let e : w + suc (length g) ≡ w + (length g + 1) = omega arith in
        rw (n, l, set-lay w (length g + 1) g dst bounds.2) (rw e at (piece ((length g + 1) ∷ g) ahead))

    -- what follows m bytes of the source from r on
    on : (m : ℕ) → drop m xs ≡ drop (r + m) src
    on m = ap (drop m) from_is ∙ drop-drop m r src

    -- a full group: another one follows at once
    pub turn-full : full ≤ k → Encoding src dst₀ (set d w (k + 1)) (r + k) (w + (k + 1))
    unfolding group encoded
    turn-full h =
        let b = bounds in
        let e : groups_bytes (others (grouped 0 xs)) ≡ encoded (drop (r + k) src) =
        ap groups_bytes (shape.at-full (omega arith)) ∙ ap encoded (ap (λ (m : ℕ). drop m xs) (sym n) ∙ on k) in
        record { inside = omega arith; laying = rw e at laid }

    -- a group before a zero
    pub turn-zero : k < full → r + k < length src → Encoding src dst₀ (set d w (k + 1)) (r + k + 1) (w + (k + 1))
    unfolding group encoded
    turn-zero h m =
        let f : r + suc k ≡ r + k + 1 = omega arith in
        let e : groups_bytes (others (grouped 0 xs)) ≡ encoded (drop (r + k + 1) src) =
        ap groups_bytes (shape.at_zero (omega arith) (omega (arith, long)))
        ∙ ap encoded (ap (λ (m : ℕ). drop (suc m) xs) (sym n) ∙ on (suc k) ∙ ap (λ (m : ℕ). drop m src) f) in
        record { inside = omega arith; laying = rw e at laid }

    -- the last group
    pub end : k < full → length src ≤ r + k → Laying 0 (encoded src) dst₀ (w + (k + 1)) [] (set d w (k + 1))
    unfolding group groups_bytes
    end h m =
        let e : groups_bytes (others (grouped 0 xs)) ≡ [] = ap groups_bytes (shape.at-end (omega arith) (omega (arith, long))) in
        rw e at laid
