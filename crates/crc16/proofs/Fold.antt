-- Eight bits of the register at once, in shifts: both ways are linear, and agree at the sixteen powers of two.
-- Assumes nothing.
use mathlib.Core.Path.{◌≡◌, refl, sym, ap, ap₂, ◌∙◌}
use Prim.Native.Nat.{ℕ, ◌*◌, ◌/◌, ◌%◌, ◌^◌, ◌<◌}
use native.Mathlib.Omega.{arith}
use borrow.Author.Tests.{eq-eqb, ne_eqb}
use lib.Bits.{bit_xor, bit_and, and_high, xor_zero_r, xor_shr, xor_mod}
use Rattle.crc16.specs.Crc.{bit, bits}
use Rattle.crc16.proofs.Xor.{Digit, nought, one, digit}
use Rattle.crc16.proofs.Linear.{Linear, right, left, after, both, agree-below}

-- the top bit of the register, as a digit
abbrev top : ℕ → ℕ
top a = a / 2 ^ 15 % 2

top_xor : (a b : ℕ) → top (bit_xor a b) ≡ bit_xor (top a) (top b)
top_xor a b = ap (λ (x : ℕ). x % 2) (xor_shr a b 15) ∙ xor_mod (a / 2 ^ 15) (b / 2 ^ 15) 1

-- the polynomial, where the digit is 1
abbrev poly : ℕ → ℕ
poly d = d * 0x1021

poly-xor : {x y : ℕ} → Digit x → Digit y → poly (bit_xor x y) ≡ bit_xor (poly x) (poly y)
poly-xor nought nought = refl
poly-xor nought one = refl
poly-xor one nought = refl
poly-xor one one = refl

added : Linear (λ a. poly (top a))
added =
    record { passes = λ a b. ap poly (top_xor a b) ∙ poly-xor (digit (a / 2 ^ 15)) (digit (b / 2 ^ 15)) }

-- one bit without its test
bit_is : (a : ℕ) → bit a ≡ bit_xor (a * 2 % 2 ^ 16) (poly (top a))
unfolding bit
bit_is a = go (digit (a / 2 ^ 15)) (and_high a 1 15)
  where
    go : {d : ℕ} → Digit d → bit_and a 0x8000 ≡ d * 0x8000 → bit a ≡ bit_xor (a * 2 % 2 ^ 16) (poly d)
    go nought e = simp (eq-eqb (bit_and a 0x8000) 0 e) (sym (xor_zero_r (a * 2 % 0x10000)))
    go one e = simp (ne_eqb (bit_and a 0x8000) 0 (λ z. omega arith))

bit-linear : Linear bit
bit-linear =
    let p = both (left 1) added in
    record { passes = λ a b. bit_is (bit_xor a b) ∙ p.passes a b ∙ sym (ap₂ bit_xor (bit_is a) (bit_is b)) }

bits-linear : Linear bits
unfolding bits
bits-linear = let two = after bit-linear bit-linear in let four = after two two in after four four

-- the same in shifts, as the code has it
abbrev pub fold : ℕ → ℕ
fold v =
    let q = bit_xor (v / 0x100) (v / 0x100 / 0x10) in
    bit_xor (bit_xor (bit_xor (q * 0x1000 % 0x10000) (q * 0x20 % 0x10000)) q) (v * 0x100 % 0x10000)

fold-linear : Linear fold
fold-linear =
    let q = both (right 8) (after (right 4) (right 8)) in
    both (both (both (after (left 12) q) (after (left 5) q)) q) (left 8)

pub fold_is : (v : ℕ) → v < 0x10000 → fold v ≡ bits v
unfolding bits bit
fold_is = agree-below fold-linear bits-linear 16 tt
