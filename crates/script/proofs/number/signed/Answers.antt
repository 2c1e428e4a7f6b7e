-- Each way out is a case of the definition.
-- Assumes nothing.
use Rattle.std.proofs.Common.{arith, sym, ap, ◌∙◌}
use Rattle.script.specs.Numbers.{minus}
use Rattle.script.proofs.Numbers.{signs-plus, signs-minus, minus-zero, minus-more}
use Rattle.script.proofs.number.signed.Goals as goal

pub returns-in_default-clause-value : goal.returns-in_default-clause-value
returns-in_default-clause-value c =
    c.decimal.ensures.value ∙ sym (signs-plus c.args.half c.args.word.now c.in_default.ensures.cases)

pub returns-in_err-n-clause-value : goal.returns-in_err-n-clause-value
returns-in_err-n-clause-value c =
    let half = c.args.half in
    let sign = c.in-Some.ensures.cases in
    let number = rw sign.1 at (sym c.decimal-2.ensures.value ∙ c.in_err-n.was) in
    c.from_residual.ensures ∙ sym (signs-minus half c.args.word.now sign.0 ∙ ap (minus half) number)

pub returns-in-0-clause-value : goal.returns-in-0-clause-value
returns-in-0-clause-value c =
    let half = c.args.half in
    let sign = c.in-Some.ensures.cases in
    let number = rw sign.1 at (sym c.decimal-2.ensures.value ∙ c.in_ok-n.was) in
    sym (signs-minus half c.args.word.now sign.0 ∙ ap (minus half) number ∙ minus-zero half c.in_ok-n.n c.in-0.is)

pub returns-in_default-2-clause-value : goal.returns-in_default-2-clause-value
returns-in_default-2-clause-value c =
    let half = c.args.half in
    let sign = c.in-Some.ensures.cases in
    let number = rw sign.1 at (sym c.decimal-2.ensures.value ∙ c.in_ok-n.was) in
    sym (signs-minus half c.args.word.now sign.0 ∙ ap (minus half) number ∙ minus-more half c.in_ok-n.n (λ e. omega arith))
