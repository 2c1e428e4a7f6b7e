-- What the digits that are left are worth after n is what the word is worth.
-- Assumes nothing.
use Rattle.std.proofs.Common.{rules, arith, sym, ◌∙◌, get_or}
use Rattle.script.proofs.Numbers.{reads, reads_none, reads_on, reads-high, reads_other, reads_end, digit-is}
use Rattle.script.proofs.number.decimal.Goals as goal

pub returns-then-is_empty-clause-value : goal.returns-then-is_empty-clause-value
returns-then-is_empty-clause-value c =
    sym (reads_none _ _ (search rules))

pub loop-c-init : goal.loop-c-init
loop-c-init c =
    (omega arith, reads _ _ (search rules))

pub returns-then-not-is_ascii_digit-clause-value : goal.returns-then-not-is_ascii_digit-clause-value
returns-then-not-is_ascii_digit-clause-value c =
    let loop = c.loop-c in
    let w = c.args.word.now in
    let digit = sym (digit-is (get_or w loop.c-index 0)) ∙ sym c.is_ascii_digit.ensures.value ∙ c.if-not-is_ascii_digit.true in
    sym (loop.invariant.1 ∙ reads_other _ _ w loop.c-index c.loop-c-test.true digit)

pub returns-in_err-checked_mul-clause-value : goal.returns-in_err-checked_mul-clause-value
returns-in_err-checked_mul-clause-value c =
    let loop = c.loop-c in
    let w = c.args.word.now in
    let digit = sym (digit-is (get_or w loop.c-index 0)) ∙ sym c.is_ascii_digit.ensures.value ∙ c.if-not-is_ascii_digit.false in
    c.from_residual.ensures ∙ sym (loop.invariant.1 ∙ reads-high _ _ w loop.c-index c.loop-c-test.true digit (omega (arith, c.in_err-checked_mul.ensures)))

pub returns-in_err-n-clause-value : goal.returns-in_err-n-clause-value
returns-in_err-n-clause-value c =
    let loop = c.loop-c in
    let w = c.args.word.now in
    let digit = sym (digit-is (get_or w loop.c-index 0)) ∙ sym c.is_ascii_digit.ensures.value ∙ c.if-not-is_ascii_digit.false in
    c.from_residual-in_err-n.ensures
    ∙ sym (loop.invariant.1 ∙ reads-high _ _ w loop.c-index c.loop-c-test.true digit (omega (arith, c.in_err-n.ensures, c.in_ok-checked_mul.ensures)))

pub returns-then-most-n-clause-value : goal.returns-then-most-n-clause-value
returns-then-most-n-clause-value c =
    let loop = c.loop-c in
    let w = c.args.word.now in
    let digit = sym (digit-is (get_or w loop.c-index 0)) ∙ sym c.is_ascii_digit.ensures.value ∙ c.if-not-is_ascii_digit.false in
    sym (loop.invariant.1 ∙ reads-high _ _ w loop.c-index c.loop-c-test.true digit (omega (arith, c.in_ok-n.ensures, c.in_ok-checked_mul.ensures)))

pub loop-c-preserved : goal.loop-c-preserved
loop-c-preserved c =
    let loop = c.loop-c in
    let w = c.args.word.now in
    let digit = sym (digit-is (get_or w loop.c-index 0)) ∙ sym c.is_ascii_digit.ensures.value ∙ c.if-not-is_ascii_digit.false in
    (omega arith, rw (c.in_ok-n.ensures.1, c.in_ok-checked_mul.ensures.1) (loop.invariant.1 ∙ reads_on _ _ w loop.c-index c.loop-c-test.true digit))

pub returns-clause-value : goal.returns-clause-value
returns-clause-value c =
    let loop = c.loop-c in
    sym (loop.invariant.1 ∙ reads_end _ _ c.args.word.now loop.c-index (omega arith) loop.invariant.0)
