-- The steps of the definition, each far below 32 bits.
-- Assumes nothing.
use native.Mathlib.Omega.{arith}
use Rattle.airtime.specs.Airtime.{divided_up, payload_symbols}
use Rattle.airtime.proofs.Term.{handed}
use Rattle.airtime.proofs.Ranges.{in-range, bits_most, divisor_range, symbols-most}
use Rattle.airtime.proofs.payload_symbols.Goals as goal

pub divisor-d-requires : goal.divisor-d-requires
divisor-d-requires c = omega (arith, (in-range c.args.air c.requires).sf-least)

pub overflow_add-result : goal.overflow_add-result
overflow_add-result c =
    let r = in-range c.args.air c.requires in
    let term = c.payload_term in
    let bits = handed term.type_inv term.ensures c.at_least_zero-bits.ensures in
    omega (arith, bits, bits_most c.args.air r, c.divisor-d.ensures, divisor_range c.args.air r)

pub overflow_sub-result : goal.overflow_sub-result
overflow_sub-result c =
    omega (arith, c.divisor-d.ensures, divisor_range c.args.air (in-range c.args.air c.requires))

pub nonzero_div-result : goal.nonzero_div-result
nonzero_div-result c =
    omega (arith, c.divisor-d.ensures, divisor_range c.args.air (in-range c.args.air c.requires))

pub returns : goal.returns
unfolding payload_symbols divided_up
returns c =
    let divisor' = c.divisor-d in
    let at-least-zero = c.at_least_zero-bits in
    let term = c.payload_term in
    simp (handed term.type_inv term.ensures at-least-zero.ensures, divisor'.ensures)

pub overflow_mul-result : goal.overflow_mul-result
overflow_mul-result c =
    omega (arith, returns c, symbols-most c.args.air (in-range c.args.air c.requires))
