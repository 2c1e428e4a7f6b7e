-- Both parts are far below 2^31, so what is cast is the number itself, and the difference of the two is the term.
-- Assumes nothing.
use mathlib.Core.Path.{◌≡◌, sym, ◌∙◌}
use lib.IntN.{pos, ◌-ℤ◌}
use mir.Syntax.{w32}
use mir.Val.{to_z}
use mir.Facts.{to_z-of_z, to_z_pos}
use native.Mathlib.Omega.{arith}
use Rattle.airtime.specs.declared.Transmission.{Transmission}
use Rattle.airtime.proofs.Ranges.{InRange, in-range, parts-most}
use Rattle.airtime.proofs.Term.{added, taken_away, one-difference, difference-mag}
use Rattle.airtime.proofs.payload_term.Goals as goal

-- the two parts as signed numbers
parts : (a : Transmission) → InRange a → to_z w32 (added a) -ℤ to_z w32 (taken_away a) ≡ pos (added a) -ℤ pos (taken_away a)
parts a r =
    let m = parts-most a r in
    λ i. to_z_pos w32 {n = added a} (omega (arith, m)) i -ℤ to_z_pos w32 {n = taken_away a} (omega (arith, m)) i

pub overflow_mul-more : goal.overflow_mul-more
overflow_mul-more c = omega (arith, (in-range c.args.air c.requires).len-most)

pub overflow_add-more : goal.overflow_add-more
overflow_add-more c = omega (arith, (in-range c.args.air c.requires).len-most)

pub overflow_add-more-2 : goal.overflow_add-more-2
overflow_add-more-2 c = omega (arith, parts-most _ (in-range c.args.air c.requires))

pub overflow_cast-result : goal.overflow_cast-result
overflow_cast-result c =
    omega (arith, parts-most _ (in-range c.args.air c.requires))

pub overflow_sub-result : goal.overflow_sub-result
overflow_sub-result c =
    let r = in-range c.args.air c.requires in
    let m = parts-most c.args.air r in
    rw (parts _ r) record { sfits = difference-mag (added c.args.air) (taken_away c.args.air) _ (omega (arith, m)) (omega (arith, m)) }

pub returns : goal.returns
returns c =
    to_z-of_z {w = w32} (overflow_sub-result c) ∙ parts _ (in-range c.args.air c.requires) ∙ sym (one-difference c.args.air)
