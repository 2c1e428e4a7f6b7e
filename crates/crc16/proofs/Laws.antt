-- The loop over the bytes: one more, and none left. And the check value fits 16 bits.
-- Assumes nothing.
use mathlib.Core.Path.{◌≡◌, ap}
use mathlib.Core.Bool.{Bool, true, false, cond}
use mathlib.Core.List.{List, [], ◌∷◌}
use Prim.Native.Nat.{ℕ, ◌+◌, ◌*◌, ◌%◌, ◌<◌, ◌≤◌}
use native.Mathlib.Omega.{arith}
use lib.Bits.{bit_and, bit_xor, xor_lt}
use lib.Dec.{eqb}
use lib.ListN.{length, drop, get_or}
use Rattle.buffer.proofs.Laws.{next, no_more}
use Rattle.crc16.specs.Crc.{bit, bits, byte, crc_from, crc_of}

pub crc-more : (crc i : ℕ) (s : List ℕ) → i < length s → crc_from crc (drop i s) ≡ crc_from (byte crc (get_or s i 0)) (drop (i + 1) s)
unfolding crc_from
crc-more crc i s h = ap (crc_from crc) (next s i h)

pub crc-done : (crc i : ℕ) (s : List ℕ) → length s ≤ i → crc_from crc (drop i s) ≡ crc
unfolding crc_from
crc-done crc i s h = ap (crc_from crc) (no_more s i h)

bit_below : (crc : ℕ) → bit crc < 0x10000
unfolding bit
bit_below crc = go (eqb (bit_and crc 0x8000) 0)
  where
    go : (t : Bool) → cond t (crc * 2 % 0x10000) (bit_xor (crc * 2 % 0x10000) 0x1021) < 0x10000
    go true = omega arith
    go false = xor_lt 16 (crc * 2 % 0x10000) 0x1021 (omega arith) (omega arith)

crc-from-below : (crc : ℕ) (bs : List ℕ) → crc < 0x10000 → crc_from crc bs < 0x10000
unfolding crc_from byte bits
crc-from-below crc [] h = h
crc-from-below crc (b ∷ bs) h = crc-from-below (byte crc b) bs (bit_below _)

-- the check value is a 16-bit number
pub crc-below : (bs : List ℕ) → crc_of bs < 0x10000
unfolding crc_of
crc-below bs = crc-from-below 0xFFFF bs (omega arith)
