-- What is known where no value is outside, and how large each step of the formula then is: far below 64 bits.
-- Assumes nothing.
use mathlib.Core.Path.{◌≡◌}
use mathlib.Core.Bool.{Bool, true, false, cond}
use Prim.Native.Nat.{ℕ, ◌+◌, ◌-◌, ◌*◌, ◌%◌, ◌^◌, ◌<◌, ◌≤◌}
use native.Mathlib.Omega.{arith}
use native.Mathlib.Nat.{mul-le-mul, div-le_self, pow-le-pow_right, le_trans, mod-eq_of_lt}
use borrow.Author.Tests.{ltb-false, le-ltb}
use lib.Dec.{ltb}
use Rattle.buffer.proofs.Deciding.{neither}
use Rattle.board.specs.Ldro.{slow}
use Rattle.airtime.specs.declared.Transmission.{Transmission}
use Rattle.airtime.specs.Airtime.{outside, payload_term, at_least_zero, divisor, divided_up, payload_symbols, quarter_symbols}
use Rattle.airtime.proofs.Term.{added, taken_away, bits_are}

-- 02 §3's ranges, as bounds
pub record InRange (a : Transmission) : Type 0 where
  pub sf-least : 7 ≤ a.sf
  pub sf-most : a.sf ≤ 12
  pub bw-most : a.bw ≤ 9
  pub cr-most : a.cr ≤ 3
  pub header-most : a.header_mode ≤ 1
  pub crc-most : a.payload_crc ≤ 1
  pub len-most : a.len ≤ 255

pub in-range : (a : Transmission) → outside a ≡ false → InRange a
unfolding outside
in-range a e =
    let sf-least = neither (ltb a.sf 7) _ e in
    let sf-most = neither (ltb 12 a.sf) _ sf-least.1 in
    let bw-most = neither (ltb 9 a.bw) _ sf-most.1 in
    let cr-most = neither (ltb 3 a.cr) _ bw-most.1 in
    let header-most = neither (ltb 1 a.header_mode) _ cr-most.1 in
    let crc-most = neither (ltb 1 a.payload_crc) (ltb 255 a.len) header-most.1 in
    record {
      sf-least = ltb-false a.sf 7 sf-least.0;
      sf-most = ltb-false 12 a.sf sf-most.0;
      bw-most = ltb-false 9 a.bw bw-most.0;
      cr-most = ltb-false 3 a.cr cr-most.0;
      header-most = ltb-false 1 a.header_mode header-most.0;
      crc-most = ltb-false 1 a.payload_crc crc-most.0;
      len-most = ltb-false 255 a.len crc-most.1;
    }

pub within : (a : Transmission) → InRange a → outside a ≡ false
unfolding outside
within a r =
    simp (
      le-ltb a.sf 7 r.sf-least,
      le-ltb 12 a.sf r.sf-most,
      le-ltb 9 a.bw r.bw-most,
      le-ltb 3 a.cr r.cr-most,
      le-ltb 1 a.header_mode r.header-most,
      le-ltb 1 a.payload_crc r.crc-most,
      le-ltb 255 a.len r.len-most,
    )

-- 2084 bits at the most, of which 68 at the most are taken away
pub parts-most : (a : Transmission) → InRange a → (added a ≤ 2084) × (taken_away a ≤ 68)
parts-most a r = (omega (arith, r.crc-most, r.len-most), omega (arith, r.sf-most, r.header-most))

pub bits_most : (a : Transmission) → InRange a → at_least_zero (payload_term a) ≤ 2084
bits_most a r = omega (arith, bits_are a, (parts-most a r).0)

-- a divisor from 20 to 48
pub divisor_range : (a : Transmission) → InRange a → (20 ≤ divisor a.sf a.bw) × (divisor a.sf a.bw ≤ 48)
unfolding divisor
divisor_range a r = go a.sf (slow a.sf a.bw) r.sf-least r.sf-most
  where
    go : (sf : ℕ) (t : Bool) → 7 ≤ sf → sf ≤ 12 → (20 ≤ cond t (4 * (sf - 2)) (4 * sf)) × (cond t (4 * (sf - 2)) (4 * sf) ≤ 48)
    go sf true l m = (omega arith, omega arith)
    go sf false l m = (omega arith, omega arith)

-- the quotient is no more than what is divided
pub quotient-most : (n d : ℕ) → n ≤ 2084 → d ≤ 48 → divided_up n d ≤ 2131
unfolding divided_up
quotient-most n d p q = le_trans (div-le_self (n + d - 1) d) (omega arith)

pub symbols-most : (a : Transmission) → InRange a → payload_symbols a ≤ 17048
unfolding payload_symbols
symbols-most a r =
    let q = quotient-most _ _ (bits_most a r) (divisor_range a r).1 in
    mul-le-mul {n₂ = 2131} {m₂ = 8} q (omega (arith, r.cr-most))

pub quarters-most : (a : Transmission) → InRange a → a.preamble_len < 65536 → quarter_symbols a ≤ 330381
unfolding quarter_symbols
quarters-most a r p = omega (arith, symbols-most a r)

pub chips-most : (q sf : ℕ) → q ≤ 330381 → sf ≤ 12 → q * 2 ^ sf ≤ 1353240576
chips-most q sf p h = mul-le-mul {n₂ = 330381} {m₂ = 4096} p (pow-le-pow_right {n = 2} (omega arith) h)

-- so a shift in 64 bits loses nothing
pub shifted : (q sf : ℕ) → q ≤ 330381 → sf ≤ 12 → q * 2 ^ sf % 18446744073709551616 ≡ q * 2 ^ sf
shifted q sf p h = mod-eq_of_lt (omega (arith, chips-most q sf p h))
