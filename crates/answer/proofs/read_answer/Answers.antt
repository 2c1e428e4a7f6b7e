-- Each answer is where the chain of tests in its definition ends.
-- Assumes nothing.
use mathlib.Core.Path.{sym, ap, ◌∙◌}
use Rattle.status.specs.Result.{took}
use Rattle.answer.specs.Answers.{read_answer}
use Rattle.answer.specs.declared.Answer.{Answer}
use Rattle.answer.proofs.read_answer.Goals as goal

pub returns-then-at_least : goal.returns-then-at_least
unfolding read_answer
returns-then-at_least c =
    let is-answer = c.is_answer in
    let if1 = c.if-is_answer in
    let answer-form = c.answer_form in
    let at_least_lem = c.at_least in
    let if2 = c.if-at_least in
    let e = sym (rw answer-form.ensures at at_least_lem.ensures) ∙ if2.true in
    let t = sym is-answer.ensures ∙ if1.true in
    rw (t, e) (ap (λ (m : Answer). took m) c.answer_of.ensures)

pub returns-then-is_answer : goal.returns-then-is_answer
unfolding read_answer
returns-then-is_answer c =
    let is-answer = c.is_answer in
    let if1 = c.if-is_answer in
    let answer-form = c.answer_form in
    let at_least_lem = c.at_least in
    let e = sym (rw answer-form.ensures at at_least_lem.ensures) ∙ c.if-at_least.false in
    rw (sym is-answer.ensures ∙ if1.true, e)

pub returns : goal.returns
unfolding read_answer
returns c = rw (sym c.is_answer.ensures ∙ c.if-is_answer.false)
