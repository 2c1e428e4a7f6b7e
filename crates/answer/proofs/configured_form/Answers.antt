-- Each answer is where the chain of tests in its definition ends; a configuration's size is small.
-- Assumes nothing.
use mathlib.Core.Path.{sym, ap, ◌∙◌}
use native.Mathlib.Omega.{arith}
use borrow.Author.Tests.{lt-ltb, le-ltb}
use borrow.Author.Rules.{part_to_end}
use Rattle.scalar.proofs.Laws.{get-byte}
use Rattle.modulation.specs.Modulations.{config_form}
use Rattle.modulation.proofs.Laws.{form-bounds}
use Rattle.answer.specs.Answers.{configured_form}
use Rattle.answer.proofs.configured_form.Goals as goal

pub returns-then-payload-lt-CONFIGURED_SIZE : goal.returns-then-payload-lt-CONFIGURED_SIZE
unfolding configured_form
returns-then-payload-lt-CONFIGURED_SIZE c =
    rw (lt-ltb _ _ c.if-payload-lt-CONFIGURED_SIZE.true)

pub returns-then-payload-gt-CONFIGURED_MAX : goal.returns-then-payload-gt-CONFIGURED_MAX
unfolding configured_form
returns-then-payload-gt-CONFIGURED_MAX c =
    let if1 = c.if-payload-lt-CONFIGURED_SIZE in
    let p = c.args.payload.now in
    rw (le-ltb _ _ if1.false, ← get-byte 0 p (omega arith), lt-ltb _ _ c.if-payload-gt-CONFIGURED_MAX.true)

pub returns-then-payload-gt-CONFIGURED_MAX-2 : goal.returns-then-payload-gt-CONFIGURED_MAX-2
unfolding configured_form
returns-then-payload-gt-CONFIGURED_MAX-2 c =
    let if1 = c.if-payload-lt-CONFIGURED_SIZE in
    let if2 = c.if-payload-gt-CONFIGURED_MAX in
    let p = c.args.payload.now in
    rw (
      le-ltb _ _ if1.false,
      ← get-byte 0 p (omega arith),
      le-ltb _ _ if2.false,
      ← get-byte 1 p (omega arith),
      lt-ltb _ _
          c.if-payload-gt-CONFIGURED_MAX-2.true,
    )

pub overflow_add-result : goal.overflow_add-result
overflow_add-result c =
    let config-form = c.config_form in
    omega (arith, form-bounds _ _ (sym config-form.ensures ∙ c.in-Size.is))

pub returns-in-Size : goal.returns-in-Size
unfolding configured_form
returns-in-Size c =
    let if1 = c.if-payload-lt-CONFIGURED_SIZE in
    let if2 = c.if-payload-gt-CONFIGURED_MAX in
    let if3 = c.if-payload-gt-CONFIGURED_MAX-2 in
    let config-form = c.config_form in
    let p = c.args.payload.now in
    let e = ap config_form (sym (part_to_end p 2)) ∙ sym config-form.ensures ∙ c.in-Size.is in
    rw (le-ltb _ _ if1.false, ← get-byte 0 p (omega arith), le-ltb _ _ if2.false, ← get-byte 1 p (omega arith), le-ltb _ _ if3.false, e)

pub returns-in-Wrong : goal.returns-in-Wrong
unfolding configured_form
returns-in-Wrong c =
    let if1 = c.if-payload-lt-CONFIGURED_SIZE in
    let if2 = c.if-payload-gt-CONFIGURED_MAX in
    let if3 = c.if-payload-gt-CONFIGURED_MAX-2 in
    let config-form = c.config_form in
    let p = c.args.payload.now in
    let e = ap config_form (sym (part_to_end p 2)) ∙ sym config-form.ensures ∙ c.in-Wrong.is in
    rw (le-ltb _ _ if1.false, ← get-byte 0 p (omega arith), le-ltb _ _ if2.false, ← get-byte 1 p (omega arith), le-ltb _ _ if3.false, e)
