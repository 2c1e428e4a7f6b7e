-- How an encoding is read: a code, its group, and what follows.
-- Assumes nothing.
use mathlib.Core.Path.{◌≡◌, refl, sym, ap, ◌∙◌}
use mathlib.Core.Bool.{Bool, true, false, not, ◌||◌}
use mathlib.Core.List.{List, [], ◌∷◌, ◌++◌}
use Prim.Native.Nat.{ℕ, zero, suc, ◌+◌, ◌-◌, ◌<◌, ◌≤◌}
use native.Mathlib.Nat.{le_of_suc-le-suc, not-suc-le-zero}
use native.Mathlib.Omega.{arith}
use borrow.Author.Tests.{eq-eqb, ne_eqb}
use lib.Dec.{eqb}
use lib.ListN.{length, take, drop, get_or, length-drop}
use lib.Seq.{drop-drop}
use Rattle.buffer.proofs.Laws.{next, no_more}
use Rattle.cobs.specs.Groups.{full, into, first}
use Rattle.cobs.specs.Decoding.{has_zero, whole, broken, parts, groups, gap, joined, decoded}
use Rattle.cobs.proofs.Cases.{whole-byte, parts-byte, into-split, others}

-- ---- no zero

zero-head : (x : ℕ) (xs : List ℕ) → has_zero (x ∷ xs) ≡ false → x ≡ 0 → ⊥
unfolding has_zero
zero-head x xs h z = let q : ◌≡◌ {A = ℕ} 0 1 = cc in omega arith

zero-tail : (x : ℕ) (xs : List ℕ) → has_zero (x ∷ xs) ≡ false → has_zero xs ≡ false
unfolding has_zero
zero-tail x xs h = simp (ne_eqb x 0 (zero-head x xs h)) at h

pub or_assoc : (a b c : Bool) → (a || b || c) ≡ (a || (b || c))
or_assoc true b c = refl
or_assoc false b c = refl

or-false : (a : Bool) → (a || false) ≡ a
or-false true = refl
or-false false = refl

-- what was found, with one byte more, and with none left
pub zero_more : (found : Bool) (s : List ℕ) (i : ℕ) → i < length s
    → (found || eqb (get_or s i 0) 0 || has_zero (drop (i + 1) s)) ≡ (found || has_zero (drop i s))
unfolding has_zero
zero_more found s i h = or_assoc found _ _ ∙ sym (ap (λ (l : List ℕ). found || has_zero l) (next s i h))

pub zero-done : (found : Bool) (s : List ℕ) (i : ℕ) → length s ≤ i → (found || has_zero (drop i s)) ≡ found
unfolding has_zero
zero-done found s i h = ap (λ (l : List ℕ). found || has_zero l) (no_more s i h) ∙ or-false found

pub no-zero-at : (s : List ℕ) → has_zero s ≡ false → (i : ℕ) → i < length s → get_or s i 0 ≡ 0 → ⊥
no-zero-at [] h i l = absurd (not-suc-le-zero l)
no-zero-at (x ∷ xs) h zero l = zero-head x xs h
no-zero-at (x ∷ xs) h (suc i) l = no-zero-at xs (zero-tail x xs h) i (le_of_suc-le-suc l)

-- ---- whole groups

-- the rest of a group is passed over
pub whole-skip : (m : ℕ) (xs : List ℕ) → m ≤ length xs → whole m xs ≡ whole 0 (drop m xs)
whole-skip zero xs h = refl
whole-skip (suc m) [] h = absurd (not-suc-le-zero h)
whole-skip (suc m) (x ∷ xs) h = whole-byte m x xs ∙ whole-skip m xs (le_of_suc-le-suc h)

-- a group that reaches past the end
whole-short : (m : ℕ) (xs : List ℕ) → length xs < m → whole m xs ≡ false
unfolding whole
whole-short zero xs h = absurd (not-suc-le-zero h)
whole-short (suc m) [] h = ne_eqb (suc m) 0 (λ e. omega arith)
whole-short (suc m) (x ∷ xs) h = whole-byte m x xs ∙ whole-short m xs (le_of_suc-le-suc h)

-- one group more, no room for one, and none left
module _ (s : List ℕ) (r : ℕ) (h : r < length s) (some : 0 < get_or s r 0) where
  abbrev code : ℕ
  code = get_or s r 0

  first-whole : whole 0 (drop r s) ≡ whole (code - 1) (drop (r + 1) s)
  unfolding whole
  first-whole = ap (whole 0) (next s r h)

  pub whole-more : r + code ≤ length s → whole 0 (drop (r + code) s) ≡ whole 0 (drop r s)
  whole-more l =
      let e : r + 1 + (code - 1) ≡ r + code = omega arith in
      sym (first-whole ∙ whole-skip (code - 1) (drop (r + 1) s) (simp length-drop (omega arith))
      ∙ ap (whole 0) (drop-drop (code - 1) (r + 1) s ∙ ap (λ (k : ℕ). drop k s) e))

  pub whole-past : length s < r + code → whole 0 (drop r s) ≡ false
  whole-past l = first-whole ∙ whole-short (code - 1) (drop (r + 1) s) (simp length-drop (omega arith))

pub whole-done : (s : List ℕ) (r : ℕ) → length s ≤ r → whole 0 (drop r s) ≡ true
unfolding whole
whole-done s r h = ap (whole 0) (no_more s r h)

-- ---- the groups

pub parts-split : (m : ℕ) (xs : List ℕ) → m ≤ length xs → parts m xs ≡ take m xs ∷ groups (drop m xs)
unfolding parts groups
parts-split zero [] h = refl
parts-split zero (x ∷ xs) h = refl
parts-split (suc m) [] h = absurd (not-suc-le-zero h)
parts-split (suc m) (x ∷ xs) h = parts-byte m x xs ∙ ap (into x) (parts-split m xs (le_of_suc-le-suc h))

-- a code and its group
pub decoded-split : (x : ℕ) (xs : List ℕ) → x - 1 ≤ length xs
    → decoded (x ∷ xs) ≡ take (x - 1) xs ++ (gap (take (x - 1) xs) (groups (drop (x - 1) xs)) ++ decoded (drop (x - 1) xs))
unfolding decoded groups joined
decoded-split x xs h = ap joined (parts-split (x - 1) xs h)

-- ---- what stands between two groups

pub gap-end : (g xs : List ℕ) → length xs ≡ 0 → gap g (groups xs) ≡ []
unfolding groups
gap-end g [] h = refl
gap-end g (x ∷ xs) h = absurd (omega arith)

pub parts-some : (m : ℕ) (xs : List ℕ) → parts m xs ≡ first (parts m xs) ∷ others (parts m xs)
unfolding parts
parts-some m [] = refl
parts-some zero (x ∷ xs) = refl
parts-some (suc m) (x ∷ xs) = rw (parts-byte m x xs, into-split x (parts m xs)) refl

pub gap-zero : (g xs : List ℕ) → (length g ≡ full → ⊥) → 0 < length xs → gap g (groups xs) ≡ 0 ∷ []
unfolding groups
gap-zero g [] e h = absurd (not-suc-le-zero h)
gap-zero g (x ∷ xs) e h = rw (parts-some (x - 1) xs, ne_eqb (length g) full e) refl

pub gap-full : (g : List ℕ) (gs : List (List ℕ)) → length g ≡ full → gap g gs ≡ []
gap-full g [] e = refl
gap-full g (h ∷ hs) e = rw (eq-eqb (length g) full e) refl

-- ---- what is refused

pub broken-none : (s : List ℕ) → length s ≡ 0 → broken s ≡ true
unfolding broken
broken-none [] h = refl
broken-none (x ∷ xs) h = absurd (omega arith)

pub broken-some : (s : List ℕ) → (length s ≡ 0 → ⊥) → broken s ≡ (has_zero s || not (whole 0 s))
unfolding broken
broken-some [] h = absurd (h refl)
broken-some (x ∷ xs) h = refl

-- a source that is not broken
pub broken-no : (s : List ℕ) → broken s ≡ false → (has_zero s ≡ false) × (whole 0 s ≡ true)
unfolding broken
broken-no [] h = (cc, cc)
broken-no (x ∷ xs) h = go (has_zero (x ∷ xs)) (whole 0 (x ∷ xs)) h
  where
    go : (z w : Bool) → (z || not w) ≡ false → (z ≡ false) × (w ≡ true)
    go true w e = (e, cc)
    go false true e = (refl, refl)
    go false false e = (refl, cc)
