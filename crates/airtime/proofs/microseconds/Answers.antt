-- The steps of the definition, each far below 64 bits: so the shift loses nothing.
-- Assumes nothing.
-- what the code has for the quarters of a symbol
use mathlib.Core.Path.{◌≡◌}
use Prim.Native.Nat.{ℕ, ◌+◌, ◌*◌, ◌≤◌}
use native.Mathlib.Omega.{arith}
use Rattle.board.proofs.Laws.{bandwidth-least}
use Rattle.airtime.specs.declared.Transmission.{Transmission}
use Rattle.airtime.specs.Airtime.{payload_symbols, quarter_symbols, microseconds}
use Rattle.airtime.proofs.Ranges.{in-range, quarters-most, chips-most, shifted}
use Rattle.airtime.proofs.microseconds.Goals as goal

quarters : (a : Transmission) {k : ℕ} → k ≡ payload_symbols a → quarter_symbols a ≤ 330381 → 4 * (a.preamble_len + 8 + k) + 17 ≤ 330381
unfolding quarter_symbols
quarters a e q = rw e q

pub overflow_shl-chips : goal.overflow_shl-chips
overflow_shl-chips c =
    omega (arith, (in-range c.args.air c.requires).sf-most)

pub overflow_mul-result : goal.overflow_mul-result
overflow_mul-result c =
    let payload-symbols = c.payload_symbols in
    let r = in-range c.args.air c.requires in
    let q = quarters c.args.air payload-symbols.ensures (quarters-most c.args.air r (omega (arith, c.well_formed))) in
    rw (shifted _ _ q r.sf-most) (omega (arith, chips-most _ _ q r.sf-most))

pub nonzero_div-result : goal.nonzero_div-result
nonzero_div-result c =
    omega (arith, c.bandwidth.ensures, bandwidth-least c.args.air.bw (in-range c.args.air c.requires).bw-most)

pub returns : goal.returns
unfolding microseconds quarter_symbols
returns c =
    let payload-symbols = c.payload_symbols in
    let r = in-range c.args.air c.requires in
    let q = quarters c.args.air payload-symbols.ensures (quarters-most c.args.air r (omega (arith, c.well_formed))) in
    rw (shifted _ _ q r.sf-most) (simp (payload-symbols.ensures, c.bandwidth.ensures))
