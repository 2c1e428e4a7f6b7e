-- Each answer is where the chain of tests in its definition ends.
-- Assumes nothing.
use borrow.Author.Tests.{eq-eqb, ne_eqb}
use Rattle.command.specs.Commands.{command_form}
use Rattle.command.proofs.command_form.Goals as goal

pub returns-then-kind-eq-SET_CONFIG : goal.returns-then-kind-eq-SET_CONFIG
unfolding command_form
returns-then-kind-eq-SET_CONFIG c = rw (eq-eqb _ _ c.if-kind-eq-SET_CONFIG.true) c.config_form.ensures

pub returns-then-kind-eq-TX : goal.returns-then-kind-eq-TX
unfolding command_form
returns-then-kind-eq-TX c = rw (ne_eqb _ _ c.if-kind-eq-SET_CONFIG.false, eq-eqb _ _ c.if-kind-eq-TX.true) c.tx_form.ensures

pub returns : goal.returns
unfolding command_form
returns c = rw (ne_eqb _ _ c.if-kind-eq-SET_CONFIG.false, ne_eqb _ _ c.if-kind-eq-TX.false)
