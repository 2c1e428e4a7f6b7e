-- The board's definitions, computed on the papers' examples.
-- Assumes nothing.
use mathlib.Core.Path.{◌≡◌, refl}
use Prim.Native.Nat.{ℕ, ◌-◌}
use mathlib.Core.Bool.{true, false}
use Rattle.board.specs.Board.{sx1262, bitmap}
use Rattle.board.specs.Ldro.{slow}

-- P C.2.2
pub bitmaps : (bitmap sx1262.bits ≡ 0x10003) × (bitmap sx1262.sfs ≡ 0x1FE0) × (bitmap sx1262.bws ≡ 0x03FF)
unfolding bitmap sx1262
bitmaps = (refl, refl, refl)

-- 01's sheet: SF11 at 125 kHz on, SF10 off; SF12 at 500 kHz off
pub symbols : (slow 11 7 ≡ true) × (slow 10 7 ≡ false) × (slow 12 9 ≡ false)
unfolding slow
symbols = (refl, refl, refl)

-- the last SF with LDRO off and the first with it on, for each bandwidth; at 500 kHz it is off up to SF12
abbrev from : ℕ → ℕ → Type 0
from bw sf = (slow (sf - 1) bw ≡ false) × (slow sf bw ≡ true)

pub first_on : from 0 7 × from 1 8 × from 2 8 × from 3 9 × from 4 9 × from 5 10 × from 6 10 × from 7 11 × from 8 12 × (slow 12 9 ≡ false)
unfolding slow
first_on = ((refl, refl), (refl, refl), (refl, refl), (refl, refl), (refl, refl), (refl, refl), (refl, refl), (refl, refl), (refl, refl), refl)
