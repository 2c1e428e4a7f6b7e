-- Laws of a number's digits, which are the library's bits: the lowest that is clear, how many are set, and what setting and clearing one changes. To set
-- digit k where it is clear, or to clear it where it is set, is an exclusive or with 2 ^ k.
-- Assumes nothing.
use Rattle.std.proofs.Common.{◌≡◌, refl, sym, ap, ◌∙◌, subst, ◌⊎◌, inl, inr, arith, zero-mul, one-mul}
use Rattle.std.proofs.Common.{ℕ, zero, suc, ◌+◌, ◌-◌, ◌*◌, ◌/◌, ◌%◌, ◌^◌, ◌≤◌, ◌<◌, bit_and, bit_xor}
use Rattle.std.proofs.Math.Nat.{pow-suc, div-eq_of_lt}
use Rattle.std.proofs.Math.Pow.{pow-lt, pow_mono}
use Rattle.std.proofs.lemmas.Bool.{cases_lt}
use Rattle.std.specs.Int.{bit_at}
use Rattle.std.specs.Int.Bits.{xor_add_and}
use Rattle.std.specs.Int.Count.{ones, count_trailing_zeros, under, ones_step, ones-ones}
use Rattle.std.proofs.lemmas.Nat.{xor_lt, and_le_l, pow_pos, ones-le}
use Rattle.std.proofs.lemmas.Nat.Bits.{bit_at_lowest, bit_at-suc, bit_at-zero, bit_at-lt, bit_at_xor, bit_at-pow_same, bit_at-pow_other, and_pow}
use Rattle.ledger.specs.Digits.{digit, lowest}

pub zero-or-one : (n : ℕ) → (n % 2 ≡ 0) ⊎ (n % 2 ≡ 1)
zero-or-one n = elim (cases_lt (n % 2) 1) [ inl e ↦ inl (omega arith) | inr e ↦ inr (omega arith) ]

-- of a number of k digits some are left only below digit k
pub digits-left : (k n i : ℕ) → n < 2 ^ k → (n / 2 ^ i ≡ 0 → ⊥) → i < k
digits-left k n i w d = elim (cases_lt i k) [ inl l ↦ l | inr l ↦ absurd (d (div-eq_of_lt (omega (arith, pow_mono l)))) ]

pub digit-zero : (n : ℕ) → digit n 0 ≡ n % 2
unfolding digit
digit-zero n = bit_at_lowest n

pub digit-suc : (n k : ℕ) → digit n (suc k) ≡ digit (n / 2) k
unfolding digit
digit-suc n k = bit_at-suc n k

-- no digit of 0 is set
pub digit-of-zero : (k : ℕ) → digit 0 k ≡ 0
unfolding digit
digit-of-zero k = bit_at-zero k

-- a digit that is not 1 is 0
pub not-one : (n k : ℕ) → (digit n k ≡ 1 → ⊥) → digit n k ≡ 0
unfolding digit
not-one n k d = omega (arith, bit_at-lt n k)

-- ---- the lowest clear digit of k: it is clear, where there is one, each below it is set, and there is one where not all k are set

abbrev IsLowestClear : ℕ → ℕ → ℕ → Type 0
IsLowestClear k n t = (t < k → digit n t ≡ 0) × ((j : ℕ) → j < t → digit n j ≡ 1) × (n < 2 ^ k - 1 → t < k)

-- an even number has digit 0 clear, and an odd one has the digits of its half, one place up; d is digit 0 of the complement
lowest_by : (k n t d : ℕ) → n < 2 ^ suc k → (2 ^ suc k - 1 - n) % 2 ≡ d → IsLowestClear k (n / 2) t → IsLowestClear (suc k) n (under d t)
lowest_by k n t (suc d) w even half = (λ l. omega (arith, digit-zero n, pow-suc 2 k), λ j l. absurd (omega arith), λ l. omega arith)
lowest_by k n t zero w odd half =
    (λ l. digit-suc n t ∙ half.0 (omega arith), below half.1, λ l. let s = half.2 (omega (arith, pow-suc 2 k)) in omega arith)
  where
    below : ((j : ℕ) → j < t → digit (n / 2) j ≡ 1) → (j : ℕ) → j < suc t → digit n j ≡ 1
    below h zero l = omega (arith, digit-zero n, pow-suc 2 k)
    below h (suc j) l = digit-suc n j ∙ h j (omega arith)

lowest_of : (k n : ℕ) → n < 2 ^ k → IsLowestClear k n (lowest k n)
unfolding lowest count_trailing_zeros
lowest_of zero n w = (λ l. absurd (omega arith), λ j l. absurd (omega arith), λ l. absurd (omega arith))
lowest_of (suc k) n w =
    let half : (2 ^ suc k - 1 - n) / 2 ≡ 2 ^ k - 1 - n / 2 = omega (arith, pow-suc 2 k, pow_pos k) in
    let rest = lowest_of k (n / 2) (omega (arith, pow-suc 2 k)) in
    let all = lowest_by k n (lowest k (n / 2)) ((2 ^ suc k - 1 - n) % 2) w refl rest in
    subst (λ x. IsLowestClear (suc k) n (under ((2 ^ suc k - 1 - n) % 2) (count_trailing_zeros k x))) (sym half) all

pub lowest-is-clear : (k n : ℕ) → n < 2 ^ k → lowest k n < k → digit n (lowest k n) ≡ 0
lowest-is-clear k n w = (lowest_of k n w).0

pub below-lowest : (k n j : ℕ) → n < 2 ^ k → j < lowest k n → digit n j ≡ 1
below-lowest k n j w = (lowest_of k n w).1 j

pub lowest-lt : (k n : ℕ) → n < 2 ^ k - 1 → lowest k n < k
lowest-lt k n l = (lowest_of k n (omega arith)).2 l

-- of sixteen, all of it at once
pub lowest-right : (n : ℕ) → n < 0xFFFF
    → (lowest 16 n < 16) × (digit n (lowest 16 n) ≡ 0) × ((j : ℕ) → j < lowest 16 n → digit n j ≡ 1)
lowest-right n h = let l = lowest_of 16 n (omega arith) in let w = l.2 h in (w, l.0 w, l.1)

-- ---- k digits are set only where all of them are

pub ones-full : (k n : ℕ) → n < 2 ^ k → ones n ≡ k → n ≡ 2 ^ k - 1
ones-full zero n w e = omega arith
ones-full (suc k) n w e =
    let l = ones-le k (n / 2) (omega (arith, pow-suc 2 k)) in
    let rest = ones-full k (n / 2) (omega (arith, pow-suc 2 k)) (omega (arith, ones_step n)) in
    omega (arith, pow-suc 2 k, pow_pos k, ones_step n)

pub not_full : (k n : ℕ) → n < 2 ^ k → (ones n ≡ k → ⊥) → n < 2 ^ k - 1
not_full k n w d = let less : n ≡ 2 ^ k - 1 → ⊥ = λ e. d (ap ones e ∙ ones-ones k) in omega arith

-- ---- setting digit k, which is clear: it adds 2 ^ k

set-xor : (k n : ℕ) → digit n k ≡ 0 → n + 2 ^ k ≡ bit_xor n (2 ^ k)
unfolding digit
set-xor k n e =
    let clear : bit_and n (2 ^ k) ≡ 0 = and_pow n k ∙ ap (λ d. d * 2 ^ k) e ∙ zero-mul _ in
    omega (arith, xor_add_and n (2 ^ k))

pub set_same : (k n : ℕ) → digit n k ≡ 0 → digit (n + 2 ^ k) k ≡ 1
unfolding digit
set_same k n e = ap (λ m. bit_at m k) (set-xor k n e) ∙ bit_at_xor n (2 ^ k) k ∙ omega (arith, bit_at-pow_same k)

pub set_other : (k j n : ℕ) → (j ≡ k → ⊥) → digit n k ≡ 0 → digit (n + 2 ^ k) j ≡ digit n j
unfolding digit
set_other k j n d e =
    ap (λ m. bit_at m j) (set-xor k n e) ∙ bit_at_xor n (2 ^ k) j ∙ omega (arith, bit_at-pow_other k j d, bit_at-lt n j)

pub set-ones : (k n : ℕ) → digit n k ≡ 0 → ones (n + 2 ^ k) ≡ suc (ones n)
set-ones zero n e =
    let half : (n + 1) / 2 ≡ n / 2 = omega (arith, digit-zero n) in
    omega (arith, digit-zero n, ones_step n, ones_step (n + 1) ∙ ap (λ x. (n + 1) % 2 + ones x) half)
set-ones (suc k) n e =
    let half : (n + 2 ^ suc k) / 2 ≡ n / 2 + 2 ^ k = omega (arith, pow-suc 2 k) in
    let i = set-ones k (n / 2) (sym (digit-suc n k) ∙ e) in
    omega (arith, pow-suc 2 k, ones_step n, ones_step (n + 2 ^ suc k) ∙ ap (λ x. (n + 2 ^ suc k) % 2 + ones x) half)

-- a number of w digits has w digits still
pub set-lt : (w k n : ℕ) → k < w → n < 2 ^ w → digit n k ≡ 0 → n + 2 ^ k < 2 ^ w
set-lt w k n l h e = omega (arith, set-xor k n e, xor_lt w n (2 ^ k) h (pow-lt l))

-- ---- clearing digit k, which is set: it takes 2 ^ k off, and setting it again undoes that

pub clear-le : (k n : ℕ) → digit n k ≡ 1 → 2 ^ k ≤ n
unfolding digit
clear-le k n e = omega (arith, and_le_l n (2 ^ k), and_pow n k ∙ ap (λ d. d * 2 ^ k) e ∙ one-mul _)

clear-xor : (k n : ℕ) → digit n k ≡ 1 → n - 2 ^ k ≡ bit_xor n (2 ^ k)
unfolding digit
clear-xor k n e = omega (arith, xor_add_and n (2 ^ k), and_pow n k ∙ ap (λ d. d * 2 ^ k) e ∙ one-mul _)

pub clear-same : (k n : ℕ) → digit n k ≡ 1 → digit (n - 2 ^ k) k ≡ 0
unfolding digit
clear-same k n e = ap (λ m. bit_at m k) (clear-xor k n e) ∙ bit_at_xor n (2 ^ k) k ∙ omega (arith, bit_at-pow_same k)

pub clear-other : (k j n : ℕ) → (j ≡ k → ⊥) → digit n k ≡ 1 → digit (n - 2 ^ k) j ≡ digit n j
unfolding digit
clear-other k j n d e =
    ap (λ m. bit_at m j) (clear-xor k n e) ∙ bit_at_xor n (2 ^ k) j ∙ omega (arith, bit_at-pow_other k j d, bit_at-lt n j)

pub clear-ones : (k n : ℕ) → digit n k ≡ 1 → ones n ≡ suc (ones (n - 2 ^ k))
clear-ones k n e =
    let again : (n - 2 ^ k) + 2 ^ k ≡ n = omega (arith, clear-le k n e) in
    ap ones (sym again) ∙ set-ones k (n - 2 ^ k) (clear-same k n e)
