-- Laws of numbers in bytes, over the count of bytes, and of two's complement, over its half. By induction on the bytes, and by cases on the sign.
-- Assumes nothing.
use mathlib.Core.Path.{◌≡◌, refl, sym, ap, ap₂, subst, ◌∙◌}
use mathlib.Core.Bool.{Bool, true, false}
use mathlib.Core.List.{List, [], ◌∷◌, ◌++◌}
use Prim.Native.Nat.{ℕ, zero, suc, ◌+◌, ◌-◌, ◌*◌, ◌^◌, ◌/◌, ◌%◌, ◌<◌, ◌≤◌}
use native.Mathlib.Nat.{pow-succ', mul_assoc, mod-lt}
use native.Mathlib.Omega.{arith}
use borrow.Author.Tests.{lt-ltb, le-ltb, ltb-true, ltb-false}
use lib.Dec.{ltb, lit<}
use lib.IntN.{ℤ, pos, negsuc}
use lib.ListN.{length, get_or, take, drop, length-drop}
use lib.Seq.{take-add, drop-drop, drop-cons, length-take-le}
use lib.Signed.{mag}
use mir.Syntax.{w8}
use mir.Val.{Fits}
use Rattle.scalar.specs.Bytes.{Bytes}
use Rattle.scalar.specs.Scalars.{le, number, unsigned, signed, column, get}

-- ---- bytes

pub byte_fits : (x : ℕ) → Fits w8 (x % 256)
byte_fits x = record { fits = mod-lt x (lit< tt) }

pub length-le : (n x : ℕ) → length (le n x) ≡ n
unfolding le
length-le zero x = refl
length-le (suc n) x = ap suc (length-le n (x / 256))

-- what n bytes hold is read back
pub number-le : (n x : ℕ) → x < 256 ^ n → number (le n x) ≡ x
unfolding le number
number-le zero x h = omega arith
number-le (suc n) x h =
    let k = pow-succ' 256 n in
    let e = number-le n (x / 256) (omega arith) in
    omega arith

-- and what was read is written back
pub le-number : (bs : List ℕ) → Bytes bs → le (length bs) (number bs) ≡ bs
unfolding le number
le-number [] p = refl
le-number (b ∷ bs) p =
    let h = p.0 in
    ap₂ ◌∷◌ (omega arith) (ap (le (length bs)) (omega arith) ∙ le-number bs p.1)

-- one piece after another
pub number_append : (a b : List ℕ) → number (a ++ b) ≡ number a + 256 ^ length a * number b
unfolding number
number_append [] b = omega arith
number_append (x ∷ a) b =
    rw (pow-succ' 256 (length a), mul_assoc 256 (256 ^ length a) (number b)) (omega (arith, number_append a b))

-- ---- a column of a payload: one byte, or two columns side by side

pub get-byte : (at : ℕ) (p : List ℕ) → at < length p → get_or p at 0 ≡ get (column at 1) p
unfolding number
get-byte at p h = rw (drop-cons p at 0) (omega arith)

pub get-join : (at m n : ℕ) (p : List ℕ) → at + m ≤ length p → {a b : ℕ} → a ≡ get (column at m) p → b ≡ get (column (at + m) n) p
    → a + 256 ^ m * b ≡ get (column at (m + n)) p
get-join at m n p h e f =
    let k : length (take m (drop at p)) ≡ m = length-take-le m (drop at p) (rw (length-drop at p) (omega arith)) in
    ap₂ (λ (x y : ℕ). x + 256 ^ m * y) e f
    ∙ sym
    (ap number (take-add m n (drop at p))
    ∙ number_append (take m (drop at p)) (take n (drop m (drop at p)))
    ∙ rw (k, drop-drop m at p))

-- ---- two's complement

pub unsigned-below : (half : ℕ) (z : ℤ) → mag z < half → unsigned half z < half + half
unfolding unsigned
unsigned-below half (pos n) h = omega arith
unsigned-below half (negsuc n) h = omega arith

-- what the bytes of a signed number hold is read back
pub signed-unsigned : (half : ℕ) (z : ℤ) → mag z < half → signed half (unsigned half z) ≡ z
unfolding signed unsigned
signed-unsigned half (pos n) h = simp (lt-ltb n half h)
signed-unsigned half (negsuc n) h = simp (le-ltb (half + half - suc n) half (omega arith)) (ap negsuc (omega arith))

-- which of its two readings a number has
pub signed_low : (half u : ℕ) → u < half → signed half u ≡ pos u
unfolding signed
signed_low half u h = simp (lt-ltb u half h)

pub signed_high : (half u : ℕ) → half ≤ u → signed half u ≡ negsuc (half + half - suc u)
unfolding signed
signed_high half u h = simp (le-ltb u half h)

pub mag-signed : (half u : ℕ) → u < half + half → mag (signed half u) < half
mag-signed half u h = go (ltb u half) refl
  where
    go : (t : Bool) → ltb u half ≡ t → mag (signed half u) < half
    go true e = let l = ltb-true u half e in rw (signed_low half u l) l
    go false e = let l = ltb-false u half e in rw (signed_high half u l) (omega arith)

-- a signed number, written in its bytes and read back
pub signed_back : (n half : ℕ) → half + half ≡ 256 ^ n → (z : ℤ) → mag z < half → signed half (number (le n (unsigned half z))) ≡ z
signed_back n half e z h =
    ap (signed half) (number-le n (unsigned half z) (subst (λ (k : ℕ). unsigned half z < k) e (unsigned-below half z h)))
    ∙ signed-unsigned half z h
