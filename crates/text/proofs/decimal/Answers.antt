-- The digits are made in an array, and copied.
-- Assumes nothing.
use mathlib.Core.Path.{◌∙◌}
use Rattle.text.proofs.Digits.{fewest}
use Rattle.text.proofs.decimal.Goals as goal

pub put-requires : goal.put-requires
put-requires c =
    let decimal = c.decimal-k in
    let e = decimal.ensures.digits ∙ fewest c.args.n _ c.ranges.n.fits decimal.ensures.len in
    rw e c.requires

pub returns : goal.returns
returns c =
    let decimal = c.decimal-k in
    let put = c.put in
    let e = decimal.ensures.digits ∙ fewest c.args.n _ c.ranges.n.fits decimal.ensures.len in
    record { value = rw e at put.ensures.value; dst_after = rw e at put.ensures.dst_after }
