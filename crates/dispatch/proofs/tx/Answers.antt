-- The OK is said first, and then the TX starts or waits, by the definition's test.
-- Assumes nothing.
use Rattle.emit.proofs.Laws.{sent-one}
use Rattle.control.proofs.Laws.{quiet, then}
use Rattle.dispatch.specs.Commands.{on_tx}
use Rattle.dispatch.proofs.Taking.{starts}
use Rattle.dispatch.proofs.tx.Goals as goal

pub returns-then-is_free : goal.returns-then-is_free
unfolding on_tx
returns-then-is_free c =
    let keep = c.keep in
    let write-ok = c.write_ok-w in
    let is_free = c.is_free in
    let if1 = c.if-is_free in
    let e = rw is_free.ensures at if1.true in
    record {
      gives = simp e (then (sent-one write-ok.ensures) (starts _ _ _ _ _ _ (rw keep.ensures at c.start.ensures)));
      commands = keep.ensures;
    }

pub returns : goal.returns
unfolding on_tx
returns c =
    let keep = c.keep in
    let write-ok = c.write_ok-w in
    let is_free = c.is_free in
    let if1 = c.if-is_free in
    let with-air = c.with_air-e in
    let e = rw is_free.ensures at if1.false in
    record {
      gives = simp e (then (sent-one write-ok.ensures) (quiet _ _ _ _ (rw with-air.ensures at c.done.ensures)));
      commands = keep.ensures;
    }
