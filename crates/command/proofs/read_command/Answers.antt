-- Each answer is where the chain of tests in its definition ends.
-- Assumes nothing.
use mathlib.Core.Path.{sym, ap, ◌∙◌}
use Rattle.status.specs.Result.{took}
use Rattle.command.specs.Commands.{read_command}
use Rattle.command.specs.declared.Command.{Command}
use Rattle.command.proofs.read_command.Goals as goal

pub returns-then-exactly : goal.returns-then-exactly
unfolding read_command
returns-then-exactly c =
    let is-command = c.is_command in
    let if1 = c.if-is_command in
    let command-form = c.command_form in
    let exactly = c.exactly in
    let if2 = c.if-exactly in
    let e = sym (rw command-form.ensures at exactly.ensures) ∙ if2.true in
    let t = sym is-command.ensures ∙ if1.true in
    rw (t, e) (ap (λ (m : Command). took m) c.command_of.ensures)

pub returns-then-is_command : goal.returns-then-is_command
unfolding read_command
returns-then-is_command c =
    let is-command = c.is_command in
    let if1 = c.if-is_command in
    let command-form = c.command_form in
    let exactly = c.exactly in
    let e = sym (rw command-form.ensures at exactly.ensures) ∙ c.if-exactly.false in
    rw (sym is-command.ensures ∙ if1.true, e)

pub returns : goal.returns
unfolding read_command
returns c = rw (sym c.is_command.ensures ∙ c.if-is_command.false)
