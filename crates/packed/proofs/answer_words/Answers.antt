-- An order has values in two cases, which the code looks for; in the others they are zeros.
-- Assumes nothing.
use mathlib.Core.Path.{refl}
use Rattle.control.specs.Control.{reply_numbers}
use Rattle.packed.proofs.Laws.{no-values}
use Rattle.packed.proofs.answer_words.Goals as goal

pub returns-in-Configure : goal.returns-in-Configure
unfolding reply_numbers
returns-in-Configure c =
    let order-number = c.order_number-order in
    simp (c.in-Configure.is, order-number.ensures, c.flag-on.ensures) refl

pub returns-in-Transmit : goal.returns-in-Transmit
unfolding reply_numbers
returns-in-Transmit c =
    let order-number = c.order_number-order in
    simp (c.in-Transmit.is, order-number.ensures, c.flag-first.ensures) refl

pub returns : goal.returns
unfolding reply_numbers
returns c =
    let order-number = c.order_number-order in
    simp (no-values c.args.a.order c.in_default.not-Configure c.in_default-o.not-Transmit, order-number.ensures) refl
