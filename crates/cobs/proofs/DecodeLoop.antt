-- The loop of `decode_into`: what the groups from r on stand for is the rest that is laid, and each turn lays one group.
-- Assumes nothing.
use mathlib.Core.Path.{◌≡◌, ap, ap₂, ◌∙◌}
use mathlib.Core.Bool.{true, false}
use mathlib.Core.Logic.{⊎_elim}
use mathlib.Core.List.{List, [], ◌∷◌, ◌++◌}
use Prim.Native.Nat.{ℕ, ◌+◌, ◌-◌, ◌<◌, ◌≤◌}
use native.Mathlib.Nat.{pos_of_ne-zero}
use native.Mathlib.Omega.{arith}
use lib.ListN.{length, take, drop, set, get_or, length-drop}
use lib.Seq.{length-take-le, drop-drop}
use Rattle.buffer.specs.Lay.{lay}
use Rattle.buffer.proofs.Deciding.{le-or-lt}
use Rattle.buffer.proofs.Laws.{next, no_more}
use Rattle.buffer.proofs.Laying.{Laying, start, byte, fits, piece}
use Rattle.cobs.specs.Groups.{full}
use Rattle.cobs.specs.Decoding.{has_zero, whole, broken, groups, gap, joined, decoded}
use Rattle.cobs.proofs.Laws.{decoded-length}
use Rattle.cobs.proofs.Reading.{no-zero-at, whole-more, whole-past, broken-no, decoded-split, gap-end, gap-zero, gap-full}

pub record Decoding (src dst₀ dst : List ℕ) (r w : ℕ) : Type 0 where
  pub clean : has_zero src ≡ false
  pub inside : r ≤ length src
  pub sound : whole 0 (drop r src) ≡ true
  pub laying : Laying 0 (decoded src) dst₀ w (decoded (drop r src)) dst

pub begin : (src dst : List ℕ) → broken src ≡ false → length src ≤ length dst → Decoding src dst dst 0 0
begin src dst b h =
    let n = broken-no src b in
    let l = decoded-length src in
    record { clean = n.0; inside = omega arith; sound = n.1; laying = start 0 (decoded src) dst (omega arith) }

module _ {src dst₀ dst : List ℕ} {r w : ℕ} (i : Decoding src dst₀ dst r w) (h : r < length src) where
  abbrev code : ℕ
  code = get_or src r 0

  -- the bytes of the group, as the code cuts them out, and what follows it
  abbrev group : List ℕ
  group = take (r + code - (r + 1)) (drop (r + 1) src)

  abbrev after : List ℕ
  after = drop (r + code) src

  some : 0 < code
  some = pos_of_ne-zero (no-zero-at src i.clean r h)

  inner : r + code ≤ length src
  inner =
      ⊎_elim (λ l. l) (λ l. let q : ◌≡◌ {A = ℕ} 0 1 = cc (i.sound, whole-past src r h some l) in absurd (omega arith))
      (le-or-lt (r + code) (length src))

  size : length group ≡ code - 1
  size = length-take-le (r + code - (r + 1)) (drop (r + 1) src) (simp length-drop (omega (arith, some, inner))) ∙ omega (arith, some)

  split : decoded (drop r src) ≡ group ++ (gap group (groups after) ++ decoded after)
  split =
      let e : code - 1 ≡ r + code - (r + 1) = omega (arith, some) in
      let f : r + 1 + (code - 1) ≡ r + code = omega (arith, some) in
      ap decoded (next src r h) ∙ decoded-split code (drop (r + 1) src) (simp length-drop (omega (arith, some, inner)))
      ∙ ap₂ (λ (g l : List ℕ). g ++ (gap g (groups l) ++ decoded l))
      (ap (λ (k : ℕ). take k (drop (r + 1) src)) e)
      (drop-drop (code - 1) (r + 1) src ∙ ap (λ (k : ℕ). drop k src) f)

  laid : Laying 0 (decoded src) dst₀ (w + (code - 1)) (gap group (groups after) ++ decoded after) (lay w group dst)
  laid = rw size at (piece group (rw split at i.laying))

  -- the group has its bytes in the source, and room in the destination
  pub bounds : (0 < code) × (r + code ≤ length src) × (w + length group ≤ length dst) × (length group ≡ code - 1)
  bounds = (some, inner, fits group _ (rw split at i.laying), size)

  pub first-inside : r + 1 ≤ r + code
  first-inside = omega (arith, some)

  -- less is left
  pub less : length src - (r + code) < length src - r
  less = omega (arith, some, h)

  on : whole 0 after ≡ true
  on = whole-more src r h some inner ∙ i.sound

  -- a zero stands between this group and the next
  module _ (e : code ≡ full + 1 → ⊥) (l : r + code < length src) where
    zero-next : gap group (groups after) ≡ 0 ∷ []
    zero-next = gap-zero group after (λ f. e (omega (arith, size, some))) (simp length-drop (omega arith))

    pub zero-fits : w + (code - 1) < length (lay w group dst)
    zero-fits = omega (arith, fits (0 ∷ []) _ (rw zero-next at laid))

    pub turn-zero : Decoding src dst₀ (set (lay w group dst) (w + (code - 1)) 0) (r + code) (w + (code - 1) + 1)
    turn-zero = record { clean = i.clean; inside = inner; sound = on; laying = byte (rw zero-next at laid) }

  -- nothing stands after a full group, nor after the last
  no_gap : gap group (groups after) ≡ [] → Decoding src dst₀ (lay w group dst) (r + code) (w + (code - 1))
  no_gap g = record { clean = i.clean; inside = inner; sound = on; laying = rw g at laid }

  pub turn-full : code ≡ full + 1 → Decoding src dst₀ (lay w group dst) (r + code) (w + (code - 1))
  turn-full e = no_gap (gap-full group (groups after) (size ∙ omega arith))

  pub turn_last : length src ≤ r + code → Decoding src dst₀ (lay w group dst) (r + code) (w + (code - 1))
  turn_last l = no_gap (gap-end group after (simp length-drop (omega arith)))

-- at the end nothing is left
pub end : {src dst₀ dst : List ℕ} {r w : ℕ} → Decoding src dst₀ dst r w → length src ≤ r → Laying 0 (decoded src) dst₀ w [] dst
unfolding decoded groups joined
end {src} {dst₀} {dst} {r} i h = rw (no_more src r h) at i.laying
