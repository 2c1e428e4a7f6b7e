-- What a planner can rely on: the time never falls when the packet grows, a longer preamble takes longer by just its symbols, and no rounding but the
-- one at the end is seen. A quotient of ℕ does not fall with what is divided, and loses less than one.
-- Assumes nothing.
use mathlib.Core.Path.{◌≡◌, refl, sym, ap}
use mathlib.Core.Bool.{Bool, true, false, cond}
use Prim.Native.Nat.{ℕ, ◌+◌, ◌-◌, ◌*◌, ◌/◌, ◌^◌, ◌<◌, ◌≤◌}
use native.Mathlib.Omega.{arith}
use native.Mathlib.Nat.{mul-le-mul_right, le-div_iff_mul-le, div-lt_iff_lt-mul, div-mul-le_self, lt-div-mul-add, add-mul, mul_assoc}
use borrow.Author.Tests.{ltb-false, le-ltb}
use lib.Dec.{ltb}
use lib.ListN.{get_or}
use Rattle.status.specs.Numbers.{AIR, WIDE}
use Rattle.status.specs.Result.{Result, took, refused_with, value_or}
use Rattle.board.specs.Ldro.{bandwidths}
use Rattle.board.proofs.Laws.{bandwidth-least}
use Rattle.airtime.specs.declared.Transmission.{Transmission}
use Rattle.airtime.specs.Airtime.{outside, payload_term, divided_up, payload_symbols, quarter_symbols, microseconds, airtime}
use Rattle.airtime.proofs.Term.{bits_are}
use Rattle.airtime.proofs.Ranges.{in-range, within, divisor_range}

-- ---- quotients

div_grows : (m n d : ℕ) → 0 < d → m ≤ n → m / d ≤ n / d
div_grows m n d p h = (le-div_iff_mul-le {k = d} {x = m / d} {y = n} p).1 (omega (arith, h, div-mul-le_self m d))

-- 02 §3 "round up": the least number of whole parts that have room for n
pub rounds-up : (n d : ℕ) → 0 < d → (n ≤ divided_up n d * d) × (divided_up n d * d < n + d)
unfolding divided_up
rounds-up n d p = (omega (arith, lt-div-mul-add {a = n + d - 1} {b = d} p), omega (arith, div-mul-le_self (n + d - 1) d))

-- and what rounding down loses is less than one: of one quotient, and of a sum
rounds-down : (n d : ℕ) → 0 < d → (n / d * d ≤ n) × (n < (n / d + 1) * d)
rounds-down n d p = (div-mul-le_self n d, omega (arith, add-mul (n / d) 1 d, lt-div-mul-add {a = n} {b = d} p))

div-sum : (m n d : ℕ) → 0 < d → (m / d + n / d ≤ (m + n) / d) × ((m + n) / d ≤ m / d + n / d + 1)
div-sum m n d p =
    let low = (le-div_iff_mul-le {k = d} {x = m / d + n / d} {y = m + n} p).1 in
    let high = (div-lt_iff_lt-mul {k = d} {x = m + n} {y = m / d + n / d + 2} p).1 in
    let em = rounds-down m d p in
    let en = rounds-down n d p in (
      low (omega (arith, em, en, add-mul (m / d) (n / d) d)),
      omega (arith, high (omega (arith, em, en, add-mul (m / d) 1 d, add-mul (n / d) 1 d, add-mul (m / d) (n / d) d, add-mul (m / d + n / d) 2 d))),
    )

-- ---- the same values, with another length or another preamble

abbrev pub with_len : Transmission → ℕ → Transmission
with_len a n =
    record {
      sf = a.sf;
      bw = a.bw;
      cr = a.cr;
      header_mode = a.header_mode;
      payload_crc = a.payload_crc;
      preamble_len = a.preamble_len;
      len = n;
    }

abbrev pub with_preamble : Transmission → ℕ → Transmission
with_preamble a n =
    record {
      sf = a.sf;
      bw = a.bw;
      cr = a.cr;
      header_mode = a.header_mode;
      payload_crc = a.payload_crc;
      preamble_len = n;
      len = a.len;
    }

-- ---- what is taken

pub record Taken (a : Transmission) (t : ℕ) : Type 0 where
  pub inside : outside a ≡ false
  pub short : t ≤ 4294967295
  pub time : microseconds a ≡ t

taken : (a : Transmission) (t : ℕ) → airtime a ≡ took t → Taken a t
unfolding airtime
taken a t = go (outside a) refl (ltb 4294967295 (microseconds a)) refl
  where
    go : (o : Bool) → outside a ≡ o → (w : Bool) → ltb 4294967295 (microseconds a) ≡ w
        → cond o (refused_with AIR) (cond w (refused_with WIDE) (took (microseconds a))) ≡ took t → Taken a t
    go true e w f h = absurd (omega (arith, ap (λ (r : Result ℕ). r.number) h))
    go false e true f h = absurd (omega (arith, ap (λ (r : Result ℕ). r.number) h))
    go false e false f h =
        let same = ap (λ (r : Result ℕ). value_or r.value 0) h in
        record { inside = e; short = omega (arith, ltb-false 4294967295 (microseconds a) f, same); time = same }

-- and what is in range and short enough is taken
takes : (a : Transmission) → outside a ≡ false → microseconds a ≤ 4294967295 → airtime a ≡ took (microseconds a)
unfolding airtime
takes a e h = simp (e, le-ltb 4294967295 (microseconds a) h)

-- ---- the laws

-- the bits, the symbols, the time: none falls when the packet grows
symbols-grow : (a : Transmission) (n : ℕ) → outside a ≡ false → a.len ≤ n → payload_symbols a ≤ payload_symbols (with_len a n)
unfolding payload_symbols divided_up
symbols-grow a n e h =
    let d = divisor_range a (in-range a e) in
    mul-le-mul_right (a.cr + 5) (div_grows _ _ _ (omega (arith, d)) (omega (arith, bits_are a, bits_are (with_len a n))))

time-grows : (p q sf hz : ℕ) → 0 < hz → p ≤ q → p * 2 ^ sf * 250000 / hz ≤ q * 2 ^ sf * 250000 / hz
time-grows p q sf hz h k = div_grows _ _ _ h (mul-le-mul_right 250000 (mul-le-mul_right (2 ^ sf) k))

inside-shorter : (a : Transmission) (n : ℕ) → a.len ≤ n → outside (with_len a n) ≡ false → outside a ≡ false
inside-shorter a n h e =
    let r = in-range (with_len a n) e in
    within
    a
    record {
      sf-least = r.sf-least;
      sf-most = r.sf-most;
      bw-most = r.bw-most;
      cr-most = r.cr-most;
      header-most = r.header-most;
      crc-most = r.crc-most;
      len-most = omega (arith, h, r.len-most);
    }

-- a packet that is no longer than one that is taken is taken too, and is on air no longer
pub never-falls : (a : Transmission) (n t : ℕ) → a.len ≤ n → airtime (with_len a n) ≡ took t → (airtime a ≡ took (microseconds a)) × (microseconds a ≤ t)
unfolding microseconds quarter_symbols
never-falls a n t h k =
    let l = taken (with_len a n) t k in
    let inside = inside-shorter a n h l.inside in
    let hz = bandwidth-least a.bw (in-range a inside).bw-most in
    let m : microseconds a ≤ microseconds (with_len a n) = time-grows _ _ a.sf _ (omega (arith, hz)) (omega (arith, symbols-grow a n inside h)) in
    (takes a inside (omega (arith, m, l.time, l.short)), omega (arith, m, l.time))

-- the time of n symbols, rounded down: a symbol is 2^SF chips, and takes 1,000,000 2^SF / bandwidth us
abbrev pub symbols_time : Transmission → ℕ → ℕ
symbols_time a n = n * 2 ^ a.sf * 1000000 / get_or bandwidths a.bw 0

-- n symbols more of preamble take just these longer, up to the rounding
pub by-its-symbols : (a : Transmission) (n : ℕ) → outside a ≡ false
    → (microseconds a + symbols_time a n ≤ microseconds (with_preamble a (a.preamble_len + n)))
    × (microseconds (with_preamble a (a.preamble_len + n)) ≤ microseconds a + symbols_time a n + 1)
unfolding microseconds quarter_symbols payload_symbols payload_term
by-its-symbols a n e =
    let hz = bandwidth-least a.bw (in-range a e).bw-most in
    rw (parts a.preamble_len n (payload_symbols a) (2 ^ a.sf)) (div-sum _ _ _ (omega (arith, hz)))
  where
    parts : (p n k c : ℕ) → (4 * (p + n + 8 + k) + 17) * c * 250000 ≡ (4 * (p + 8 + k) + 17) * c * 250000 + n * c * 1000000
    parts p n k c =
        let e : 4 * (p + n + 8 + k) + 17 ≡ 4 * (p + 8 + k) + 17 + 4 * n = omega arith in
        rw e (omega (arith, add-mul (4 * (p + 8 + k) + 17) (4 * n) c, mul_assoc 4 n c))

-- what is told is the time by the formula, less a part of one us
pub whole-microseconds : (a : Transmission) (t : ℕ) → airtime a ≡ took t
    → (t * get_or bandwidths a.bw 0 ≤ quarter_symbols a * 2 ^ a.sf * 250000)
    × (quarter_symbols a * 2 ^ a.sf * 250000 < (t + 1) * get_or bandwidths a.bw 0)
unfolding microseconds
whole-microseconds a t k =
    let l = taken a t k in
    rw (sym l.time) (rounds-down _ _ (omega (arith, bandwidth-least a.bw (in-range a l.inside).bw-most)))
