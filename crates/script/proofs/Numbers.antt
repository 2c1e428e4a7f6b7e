-- Numbers digit by digit.
-- Assumes nothing.
use mathlib.Core.Path.{◌≡◌, refl, ap, ◌∙◌}
use mathlib.Core.Bool.{Bool, true, false, cond, ◌&&◌}
use mathlib.Core.List.{List, [], ◌∷◌}
use Prim.Native.Nat.{ℕ, zero, suc, ◌+◌, ◌-◌, ◌*◌, ◌<◌, ◌≤◌}
use Prim.Native.Char.{code}
use native.Mathlib.Omega.{arith}
use borrow.Author.Tests.{ltb-true, ltb-false, le-leb, lt-leb}
use lib.Dec.{ltb, leb, eqb}
use lib.ListN.{length, take, drop, get_or}
use Rattle.buffer.proofs.Laws.{next, no_more}
use Rattle.std.specs.Prelude.{Option, Some, None}
use Rattle.std.specs.Char.{is_ascii_digit}
use Rattle.std.specs.Cmp.Lexicographic.{pointwise}
use Rattle.script.specs.Numbers.{between, all_digits, value, up_to, decimal_in, minus, signed_in}

pub digit-is : (c : ℕ) → is_ascii_digit c ≡ between (code "0") (code "9") c
digit-is c = go (ltb c 48) refl
  where
    go : (b : Bool) → ltb c 48 ≡ b → (leb 48 c && leb c 57) ≡ cond b false (leb c 57)
    go true p = simp (lt-leb 48 c (ltb-true c 48 p))
    go false p = simp (le-leb 48 c (ltb-false c 48 p))

-- what the digits s are worth after the number n
abbrev pub reading : ℕ → ℕ → List ℕ → Option ℕ
reading most n s = cond (all_digits s) (up_to most (value n s)) None

pub reads : (most : ℕ) (w : List ℕ) → (length w ≡ 0 → ⊥) → decimal_in most w ≡ reading most 0 w
unfolding decimal_in
reads most [] h = absurd (h refl)
reads most (c ∷ w) h = refl

pub reads_none : (most : ℕ) (w : List ℕ) → length w ≡ 0 → decimal_in most w ≡ None
unfolding decimal_in
reads_none most [] h = refl
reads_none most (c ∷ w) h = absurd (omega arith)

-- more digits make no number smaller
grows : (n : ℕ) (s : List ℕ) → n ≤ value n s
unfolding value
grows n [] = omega arith
grows n (c ∷ s) = omega (arith, grows (n * 10 + (c - code "0")) s)

too-high : (most n : ℕ) (s : List ℕ) → most < n → reading most n s ≡ None
too-high most n s h = go (all_digits s) (lt-leb (value n s) most (omega (arith, grows n s)))
  where
    go : (t : Bool) → leb (value n s) most ≡ false → cond t (up_to most (value n s)) None ≡ None
    go true e = simp e
    go false e = refl

module _ (most n : ℕ) (w : List ℕ) (i : ℕ) (h : i < length w) where
  -- a digit
  pub reads_on : between (code "0") (code "9") (get_or w i 0) ≡ true
      → reading most n (drop i w) ≡ reading most (n * 10 + (get_or w i 0 - code "0")) (drop (i + 1) w)
  unfolding all_digits value
  reads_on e = rw (next w i h) (simp e)

  -- a digit that makes it too high
  pub reads-high : between (code "0") (code "9") (get_or w i 0) ≡ true → most < n * 10 + (get_or w i 0 - code "0")
      → reading most n (drop i w) ≡ None
  reads-high e k = reads_on e ∙ too-high most _ _ k

  -- none
  pub reads_other : between (code "0") (code "9") (get_or w i 0) ≡ false → reading most n (drop i w) ≡ None
  unfolding all_digits
  reads_other e = rw (next w i h) (simp e)

-- the end
pub reads_end : (most n : ℕ) (w : List ℕ) (i : ℕ) → length w ≤ i → n ≤ most → reading most n (drop i w) ≡ Some n
unfolding all_digits value
reads_end most n w i h k = rw (no_more w i h) (simp (le-leb n most k))

-- ---- with a sign

module _ (half : ℕ) where
  pub signs-plus : (w : List ℕ) → pointwise eqb (take 1 w) (code "-" ∷ []) ≡ false → signed_in half w ≡ decimal_in (half - 1) w
  unfolding signed_in decimal_in
  signs-plus [] e = refl
  signs-plus (c ∷ w) e = go (eqb c (code "-")) e
    where
      go : (b : Bool) → (b && true) ≡ false → cond b (minus half (decimal_in half w)) (decimal_in (half - 1) (c ∷ w)) ≡ decimal_in (half - 1) (c ∷ w)
      go true e = cc
      go false e = refl

  pub signs-minus : (w : List ℕ) → pointwise eqb (take 1 w) (code "-" ∷ []) ≡ true → signed_in half w ≡ minus half (decimal_in half (drop 1 w))
  unfolding signed_in
  signs-minus [] e = cc
  signs-minus (c ∷ w) e = go (eqb c (code "-")) e
    where
      go : (b : Bool) → (b && true) ≡ true
          → cond b (minus half (decimal_in half w)) (decimal_in (half - 1) (c ∷ w)) ≡ minus half (decimal_in half w)
      go true e = refl
      go false e = cc

pub minus-zero : (half n : ℕ) → n ≡ 0 → minus half (Some n) ≡ Some 0
minus-zero half zero h = refl
minus-zero half (suc n) h = absurd (omega arith)

pub minus-more : (half n : ℕ) → (n ≡ 0 → ⊥) → minus half (Some n) ≡ Some (2 * half - n)
minus-more half zero h = absurd (h refl)
minus-more half (suc n) h = ap Some (omega arith)
