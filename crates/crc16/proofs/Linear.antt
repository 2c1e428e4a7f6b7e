-- Two linear maps that agree at 1, 2, 4 .. 0x8000 agree at every 16-bit number.
-- A map is linear if it passes XOR through. Shifts are, and so is what they are put together to.
-- Assumes nothing.
use mathlib.Core.Path.{◌≡◌, sym, ap, ap₂, ◌∙◌}
use mathlib.Core.Bool.{Bool, true, false, ◌&&◌}
use mathlib.Core.Logic.{⊎_elim}
use Prim.Native.Nat.{ℕ, zero, suc, ◌+◌, ◌*◌, ◌/◌, ◌%◌, ◌-◌, ◌^◌, ◌<◌, ◌≤◌}
use native.Mathlib.Nat.{add-zero, one-mul, pow-suc}
use native.Mathlib.Omega.{arith}
use lib.Dec.{T, eqb, eqb→eq}
use lib.Pow.{pow_pos}
use lib.Bits.{bit_xor, xor_self, xor_shr, xor_mod, xor_block, xor_shifted}
use Rattle.buffer.proofs.Deciding.{le-or-lt}
use Rattle.crc16.proofs.Xor.{xor-swap}

pub record Linear (f : ℕ → ℕ) : Type 0 where
  pub passes : (a b : ℕ) → f (bit_xor a b) ≡ bit_xor (f a) (f b)

-- a shift to the right
pub right : (k : ℕ) → Linear (λ a. a / 2 ^ k)
right k = record { passes = λ a b. xor_shr a b k }

-- a shift to the left, in 16 bits
pub left : (k : ℕ) → Linear (λ a. a * 2 ^ k % 2 ^ 16)
left k =
    record {
      passes = λ a b.
          ap (λ (x : ℕ). x % 2 ^ 16)
          (sym (add-zero (bit_xor a b * 2 ^ k)) ∙ sym (xor_block k a b 0 0 (pow_pos k) (pow_pos k))
          ∙ ap₂ bit_xor (add-zero (a * 2 ^ k)) (add-zero (b * 2 ^ k)))
          ∙ xor_mod (a * 2 ^ k) (b * 2 ^ k) 16;
    }

module _ {f g : ℕ → ℕ} where
  -- one after the other
  pub after : Linear g → Linear f → Linear (λ a. g (f a))
  after q p = record { passes = λ a b. ap g (p.passes a b) ∙ q.passes (f a) (f b) }

  -- both, and the XOR of their results
  pub both : Linear f → Linear g → Linear (λ a. bit_xor (f a) (g a))
  both p q =
      record { passes = λ a b. ap₂ bit_xor (p.passes a b) (q.passes a b) ∙ xor-swap (f a) (f b) (g a) (g b) }

at_zero : {f : ℕ → ℕ} → Linear f → f 0 ≡ 0
at_zero {f} p = p.passes 0 0 ∙ xor_self (f 0)

-- the test: f and g agree at each power of two below 2 ^ n
abbrev pub agree : (ℕ → ℕ) → (ℕ → ℕ) → ℕ → Bool
agree f g zero = true
agree f g (suc n) = eqb (f (2 ^ n)) (g (2 ^ n)) && agree f g n

first : (a b : Bool) → T (a && b) → T a
first true b t = tt
first false b t = t

second : (a b : Bool) → T (a && b) → T b
second true b t = t
second false b t = absurd t

-- a number below 2 ^ (n + 1) that has its top digit at 2 ^ n
split : (n a : ℕ) → 2 ^ n ≤ a → a < 2 ^ suc n → a ≡ bit_xor (2 ^ n) (a - 2 ^ n)
split n a l h =
    let d = pow-suc 2 n in
    let e : a ≡ 1 * 2 ^ n + (a - 2 ^ n) = omega arith in
    e ∙ sym (xor_shifted 1 n (a - 2 ^ n) (omega arith)) ∙ ap (λ (x : ℕ). bit_xor x (a - 2 ^ n)) (one-mul (2 ^ n))

pub agree-below : {f g : ℕ → ℕ} → Linear f → Linear g → (n : ℕ) → T (agree f g n) → (a : ℕ) → a < 2 ^ n → f a ≡ g a
agree-below {f} {g} p q zero t a h =
    let z : a ≡ 0 = omega arith in
    ap f z ∙ at_zero p ∙ sym (at_zero q) ∙ sym (ap g z)
agree-below {f} {g} p q (suc n) t a h =
    let d = pow-suc 2 n in
    let here = eqb→eq (f (2 ^ n)) (g (2 ^ n)) (first (eqb (f (2 ^ n)) (g (2 ^ n))) (agree f g n) t) in
    let under = agree-below p q n (second (eqb (f (2 ^ n)) (g (2 ^ n))) (agree f g n) t) in
    ⊎_elim
    (λ (l : 2 ^ n ≤ a).
    let e = split n a l h in
    ap f e ∙ p.passes (2 ^ n) (a - 2 ^ n) ∙ ap₂ bit_xor here (under (a - 2 ^ n) (omega arith))
    ∙ sym (ap g e ∙ q.passes (2 ^ n) (a - 2 ^ n)))
    (under a) (le-or-lt (2 ^ n) a)
