-- Each answer is where the chain of tests in its definition ends.
-- Assumes nothing.
use borrow.Author.Tests.{eq-eqb, ne_eqb}
use Rattle.kind.specs.Kinds.{tag_wrong}
use Rattle.kind.proofs.tag_wrong.Goals as goal

pub returns-then-is_command-kind : goal.returns-then-is_command-kind
unfolding tag_wrong
returns-then-is_command-kind c =
    let e = rw c.is_command.ensures at c.if-is_command-kind.true in
    rw e

pub returns-then-kind-eq-RX : goal.returns-then-kind-eq-RX
unfolding tag_wrong
returns-then-kind-eq-RX c =
    let e = rw c.is_command.ensures at c.if-is_command-kind.false in
    rw (e, eq-eqb _ _ c.if-kind-eq-RX.true)

pub returns : goal.returns
unfolding tag_wrong
returns c =
    let e = rw c.is_command.ensures at c.if-is_command-kind.false in
    rw (e, ne_eqb _ _ c.if-kind-eq-RX.false)
