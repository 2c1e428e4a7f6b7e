-- What is written of a received packet is read back, and how long it is. The columns compute, and each field is read back by the laws of numbers.
-- Assumes nothing.
use mathlib.Core.Path.{◌≡◌, refl, ap, subst, ◌∙◌}
use mathlib.Core.Bool.{Bool, true, false, cond}
use mathlib.Core.List.{List, ◌++◌}
use Prim.Native.Nat.{ℕ, ◌+◌, ◌≤◌}
use native.Mathlib.Omega.{arith}
use borrow.Author.Tests.{lt-ltb, le-ltb, ltb-true, ltb-false}
use lib.Dec.{ltb}
use lib.ListN.{length, take, drop, length-append}
use Rattle.buffer.specs.Lay.{lay}
use Rattle.scalar.specs.Scalars.{le, number, column, get, sign16, sign32, signed}
use Rattle.scalar.proofs.Laws.{signed_back, number-le}
use Rattle.form.specs.declared.Form.{Form}
use Rattle.form.specs.declared.Form.TheVariants as F
use Rattle.rx.specs.Rx.{rx_size, rx_form, rx_of, rx_packet, rx_bytes}
use Rattle.rx.specs.Ranges.{RxIn}
use Rattle.rx.specs.declared.Rx.{Rx}

-- ---- what is written is read back

pub rx-back : (m : Rx) → RxIn m → (bs : List ℕ) → rx_of (rx_bytes m ++ bs) ≡ m
unfolding rx_of rx_bytes lay le
rx-back m r bs =
    λ i.
    record {
      rssi = signed_back 2 sign16 refl m.rssi r.rssi i;
      snr = signed_back 2 sign16 refl m.snr r.snr i;
      freq_err = signed_back 4 sign32 refl m.freq_err r.freq_err i;
      timestamp_us = number-le 8 m.timestamp_us r.timestamp_us i;
      crc_valid = number-le 1 m.crc_valid r.crc_valid i;
      packets_dropped = number-le 2 m.packets_dropped r.packets_dropped i;
      origin = number-le 1 m.origin r.origin i;
    }

pub length-rx : (m : Rx) → length (rx_bytes m) ≡ rx_size
unfolding rx_bytes lay le
length-rx m = refl

pub packet-back : (m : Rx) (bs : List ℕ) → rx_packet (rx_bytes m ++ bs) ≡ bs
unfolding rx_bytes lay le
packet-back m bs = refl

-- ---- the form

longer : (n : ℕ) → ltb 275 (20 + n) ≡ ltb 255 n
longer n = go (ltb 255 n) refl
  where
    go : (t : Bool) → ltb 255 n ≡ t → ltb 275 (20 + n) ≡ t
    go true e = let h = ltb-true 255 n e in lt-ltb 275 (20 + n) (omega arith)
    go false e = let h = ltb-false 255 n e in le-ltb 275 (20 + n) (omega arith)

pub rx-form-back : (m : Rx) → RxIn m → (bs : List ℕ)
    → rx_form (rx_bytes m ++ bs)
    ≡ cond (ltb 255 (length bs)) F.Wrong
    (cond (ltb 1 m.crc_valid) F.Wrong
    (cond (ltb 1 m.origin) F.Wrong
    (F.Size (20 + length bs))))
unfolding rx_form rx_bytes lay le
rx-form-back m r bs =
    let p = rx_bytes m ++ bs in
    let n : length p ≡ 20 + length bs = length-append (rx_bytes m) bs in
    let short : ltb (length p) 20 ≡ false = le-ltb (length p) 20 (omega (arith, n)) in
    let long : ltb 275 (length p) ≡ ltb 255 (length bs) = ap (ltb 275) n ∙ longer (length bs) in
    λ i.
    cond (short i) F.Wrong
    (cond (long i) F.Wrong
    (cond (ltb 1 (number-le 1 m.crc_valid r.crc_valid i)) F.Wrong
    (cond (ltb 1 (number-le 1 m.origin r.origin i)) F.Wrong
    (F.Size (n i)))))

-- what holds of each size
abbrev sized : (ℕ → Type 0) → Form → Type 0
sized P (F.Size n) = P n
sized P F.Wrong = Unit {0}

-- a payload of that form is as long as it says, and as P allows
pub rx-size : (p : List ℕ) (n : ℕ) → rx_form p ≡ F.Size n → (n ≡ length p) × (20 ≤ n) × (n ≤ 275)
unfolding rx_form
rx-size p n e = subst (sized Whole) e (go (ltb (length p) 20) (ltb 275 (length p)) (ltb 1 (get (column 16 1) p)) (ltb 1 (get (column 19 1) p)) refl refl)
  where
    Whole : ℕ → Type 0
    Whole k = (k ≡ length p) × (20 ≤ k) × (k ≤ 275)

    go : (a b c d : Bool) → ltb (length p) 20 ≡ a → ltb 275 (length p) ≡ b
        → sized Whole (cond a F.Wrong (cond b F.Wrong (cond c F.Wrong (cond d F.Wrong (F.Size (length p))))))
    go true b c d s t = tt
    go false true c d s t = tt
    go false false true d s t = tt
    go false false false true s t = tt
    go false false false false s t = (refl, ltb-false _ _ s, ltb-false _ _ t)

-- ---- P's columns, offset and size

pub columns : (p : List ℕ)
    → ((rx_of p).rssi ≡ signed sign16 (number (take 2 (drop 0 p))))
    × ((rx_of p).snr ≡ signed sign16 (number (take 2 (drop 2 p))))
    × ((rx_of p).freq_err ≡ signed sign32 (number (take 4 (drop 4 p))))
    × ((rx_of p).timestamp_us ≡ number (take 8 (drop 8 p)))
    × ((rx_of p).crc_valid ≡ number (take 1 (drop 16 p)))
    × ((rx_of p).packets_dropped ≡ number (take 2 (drop 17 p)))
    × ((rx_of p).origin ≡ number (take 1 (drop 19 p)))
unfolding rx_of
columns p = (refl, refl, refl, refl, refl, refl, refl)
