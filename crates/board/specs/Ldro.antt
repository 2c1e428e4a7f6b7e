-- Low data rate optimisation: 01 "A run of bytes becomes a frame", its last paragraph; P 6.3.
-- Assumes nothing.
use Rattle.std.specs.Prelude.{ℕ, ◌*◌, ◌^◌, Bool, false, List, [], ◌∷◌, ltb, get_or}
use Rattle.modulation.specs.declared.Modulation.{Modulation}
use Rattle.modulation.specs.declared.Modulation.TheVariants as M

-- the bandwidths 0 to 9, in Hz
abbrev pub bandwidths : List ℕ
bandwidths = 7810 ∷ 10420 ∷ 15630 ∷ 20830 ∷ 31250 ∷ 41670 ∷ 62500 ∷ 125000 ∷ 250000 ∷ 500000 ∷ []

-- a symbol of 2^SF chips takes longer than 16 ms; a bandwidth that has no value counts as 0 Hz
unfoldable pub slow : ℕ → ℕ → Bool
slow sf bw = ltb (16 * get_or bandwidths bw 0) (1000 * 2 ^ sf)

-- off for FSK
unfoldable pub ldro : Modulation → Bool
ldro (M.Lora m) = slow m.sf m.bw
ldro (M.Fsk m) = false
