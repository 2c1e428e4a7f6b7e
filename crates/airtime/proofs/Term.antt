-- The payload term as one difference of two numbers: what is added, less what is taken away. Clamped at zero it is the difference of ℕ, which stops there.
-- By the laws of the group ℤ.
-- Assumes nothing.
use mathlib.Core.Path.{◌≡◌, refl, sym, ap, ◌∙◌}
use mathlib.Core.Bool.{Bool, true, false, cond, true≢false}
use Prim.Native.Nat.{ℕ, zero, suc, ◌+◌, ◌-◌, ◌*◌, ◌^◌, ◌<◌, ◌≤◌}
use native.Mathlib.Omega.{arith}
use borrow.Author.Tests.{ltb-true}
use lib.Dec.{T, ltb}
use lib.IntN.{ℤ, pos, negsuc, neg_ℤ, ◌+ℤ◌, ◌-ℤ◌, +ℤ_assoc, +ℤ_comm, neg_ℤ-+ℤ, nat_abs}
use mir.Syntax.{w32}
use mir.Val.{to_z, of_z, hbits}
use mir.Facts.{to_z-of_z}
use lib.Signed.{mag, lt_z, non_neg}
use Rattle.airtime.specs.declared.Transmission.{Transmission}
use Rattle.airtime.specs.Airtime.{payload_term, at_least_zero}

-- what is added, and what is taken away
abbrev pub added : Transmission → ℕ
added a = 8 * a.len + 28 + 16 * a.payload_crc

abbrev pub taken_away : Transmission → ℕ
taken_away a = 4 * a.sf + 20 * a.header_mode

-- ---- one difference

later : (m k n : ℤ) → m -ℤ k +ℤ n ≡ m +ℤ n -ℤ k
later m k n = +ℤ_assoc m (neg_ℤ k) n ∙ ap (λ (z : ℤ). m +ℤ z) (+ℤ_comm (neg_ℤ k) n) ∙ sym (+ℤ_assoc m n (neg_ℤ k))

both : (m k n : ℤ) → m -ℤ k -ℤ n ≡ m -ℤ (k +ℤ n)
both m k n = +ℤ_assoc m (neg_ℤ k) (neg_ℤ n) ∙ ap (λ (z : ℤ). m +ℤ z) (sym (neg_ℤ-+ℤ k n))

pub one-difference : (a : Transmission) → payload_term a ≡ pos (added a) -ℤ pos (taken_away a)
unfolding payload_term
one-difference a = go (pos (8 * a.len)) (pos (4 * a.sf)) (pos 28) (pos (16 * a.payload_crc)) (pos (20 * a.header_mode))
  where
    go : (p s e c h : ℤ) → p -ℤ s +ℤ e +ℤ c -ℤ h ≡ p +ℤ e +ℤ c -ℤ (s +ℤ h)
    go p s e c h =
        ap (λ (z : ℤ). z +ℤ c -ℤ h) (later p s e) ∙ ap (λ (z : ℤ). z -ℤ h) (later (p +ℤ e) s c) ∙ both (p +ℤ e +ℤ c) s h

-- ---- and clamped

pub clamped : (m k : ℕ) → at_least_zero (pos m -ℤ pos k) ≡ m - k
clamped m zero = omega arith
clamped m (suc k) = go (ltb m (suc k)) refl
  where
    go : (t : Bool) → ltb m (suc k) ≡ t → at_least_zero (cond t (negsuc (suc k - suc m)) (pos (m - suc k))) ≡ m - suc k
    go true e = omega (arith, ltb-true m (suc k) e)
    go false e = refl

pub difference-mag : (m k h : ℕ) → m < h → k ≤ h → mag (pos m -ℤ pos k) < h
difference-mag m zero h p q = omega arith
difference-mag m (suc k) h p q = go (ltb m (suc k))
  where
    go : (t : Bool) → mag (cond t (negsuc (suc k - suc m)) (pos (m - suc k))) < h
    go true = omega arith
    go false = omega arith

-- the code's test for it
pub negative-none : (z : ℤ) → lt_z z (pos 0) ≡ true → 0 ≡ at_least_zero z
negative-none (pos n) e = omega (arith, ltb-true n 0 e)
negative-none (negsuc n) e = refl

pub else-itself : (z : ℤ) → lt_z z (pos 0) ≡ false → T (non_neg z) × (nat_abs z ≡ at_least_zero z)
else-itself (pos n) e = (tt, refl)
else-itself (negsuc n) e = absurd (true≢false e)

-- of a signed number that was handed on
pub handed : {z t : ℤ} {n : ℕ} → mag z < 2 ^ hbits w32 → z ≡ t → n ≡ at_least_zero (to_z w32 (of_z w32 z)) → n ≡ at_least_zero t
handed ok e f = f ∙ ap at_least_zero (to_z-of_z {w = w32} (record { sfits = ok }) ∙ e)

-- the bits of the payload
pub bits_are : (a : Transmission) → at_least_zero (payload_term a) ≡ added a - taken_away a
bits_are a = ap at_least_zero (one-difference a) ∙ clamped (added a) (taken_away a)
