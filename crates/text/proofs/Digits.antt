-- The fewest decimal digits of a number, as `io` makes them, are `decimal`; and how long it is.
-- Assumes nothing.
use mathlib.Core.Path.{◌≡◌, ap, ap₂}
use mathlib.Core.Bool.{Bool, true, false, cond}
use mathlib.Core.Logic.{⊎_elim}
use mathlib.Core.List.{List, [], ◌∷◌, ◌++◌}
use Prim.Native.Nat.{ℕ, zero, suc, ◌-◌, ◌/◌, ◌%◌, ◌^◌, ◌<◌, ◌≤◌}
use native.Mathlib.Nat.{pow-suc, one-le-pow, pow-le-pow_right, mod-lt, div-lt_iff_lt-mul, le-div_iff_mul-le}
use native.Mathlib.Omega.{arith}
use borrow.Author.Tests.{lt-ltb, le-ltb}
use lib.Dec.{ltb, lit<, lit≤}
use lib.ListN.{length, length-append}
use Rattle.buffer.proofs.Deciding.{le-or-lt}
use Rattle.io.specs.Digits.{hex_digit_ascii, last_digits, IsDigitCount}
use Rattle.text.specs.Text.{digit, trailing_digits, decimal}

same-digit : (n : ℕ) → hex_digit_ascii (n % 10) ≡ digit (n % 10)
same-digit n = simp (lt-ltb (n % 10) 10 (mod-lt n (lit< tt)))

-- so many places are enough for so many digits
spelled : (k r n : ℕ) → r ≤ k → IsDigitCount 10 1 n r → last_digits 10 r n ≡ trailing_digits k n
unfolding trailing_digits
spelled k zero n h f = absurd (omega (arith, f.0))
spelled zero (suc j) n h f = absurd (omega arith)
spelled (suc k) (suc zero) n h f = simp (lt-ltb n 10 f.1) (ap (λ (d : ℕ). d ∷ []) (same-digit n))
spelled (suc k) (suc (suc j)) n h f =
    let p = pow-suc 10 j in
    let q = pow-suc 10 (suc j) in
    let e : suc (suc j) - 1 ≡ suc j = omega arith in
    let g : suc j - 1 ≡ j = omega arith in
    let least : 10 ^ suc j ≤ n = rw e at (f.2 (omega arith)) in
    let many : 10 ≤ n = omega (arith, one-le-pow j 10 (lit< tt)) in
    let below = (div-lt_iff_lt-mul {k = 10} {x = n} {y = 10 ^ suc j} (lit< tt)).1 (omega (arith, f.1)) in
    let above = (le-div_iff_mul-le {k = 10} {x = 10 ^ (suc j - 1)} {y = n} (lit< tt)).1 (rw g (omega arith)) in
    let front = spelled k (suc j) (n / 10) (omega arith) (omega arith, below, λ _. above) in
    simp (le-ltb n 10 many) (ap₂ (λ (ds : List ℕ) (d : ℕ). ds ++ (d ∷ [])) front (same-digit n))

pub fewest : (n r : ℕ) → n < 2 ^ 64 → IsDigitCount 10 1 n r → last_digits 10 r n ≡ decimal n
unfolding decimal
fewest n r h f = spelled 20 r n (⊎_elim (λ w. w) (λ w. absurd (far w)) (le-or-lt r 20)) f
  where
    far : 20 < r → ⊥
    far w =
        let a = pow-le-pow_right {n = 10} (lit< tt) {i = 20} {j = r - 1} (omega arith) in
        let b : 10 ^ (r - 1) ≤ n = f.2 (omega arith) in
        omega (arith, a, b, h)

length_last : (k n : ℕ) → length (trailing_digits k n) ≤ k
unfolding trailing_digits
length_last zero n = lit≤ tt
length_last (suc k) n = go (ltb n 10) (length_last k (n / 10))
  where
    go : (t : Bool) → length (trailing_digits k (n / 10)) ≤ k → length (cond t [] (trailing_digits k (n / 10)) ++ (digit (n % 10) ∷ [])) ≤ suc k
    go true h = omega arith
    go false h = simp length-append (omega arith)

pub length-decimal : (n : ℕ) → length (decimal n) ≤ 20
unfolding decimal
length-decimal n = length_last 20 n
