-- The OK is said first, and the test is the definition's.
use Rattle.emit.proofs.Laws.{sent-one}
use Rattle.control.proofs.Laws.{spoken}
use Rattle.dispatch.specs.Commands.{turned}
use Rattle.dispatch.proofs.turn.Goals as goal

pub returns-then-is_free-changed : goal.returns-then-is_free-changed
unfolding turned
returns-then-is_free-changed c =
    let write-ok = c.write_ok-w in
    let with-receiving = c.with_receiving-inbox in
    let with-inbox = c.with_inbox-e in
    let is_free = c.is_free in
    let changed = c.changed in
    let if1 = c.if-is_free-changed in
    let idle = c.idle in
    let e = rw (is_free.ensures, changed.ensures) at if1.true in
    simp e (spoken _ _ (sent-one write-ok.ensures) (rw (with-inbox.ensures, with-receiving.ensures, idle.ensures) at c.done.ensures))

pub returns : goal.returns
unfolding turned
returns c =
    let write-ok = c.write_ok-w in
    let with-receiving = c.with_receiving-inbox in
    let with-inbox = c.with_inbox-e in
    let is_free = c.is_free in
    let changed = c.changed in
    let if1 = c.if-is_free-changed in
    let e = rw (is_free.ensures, changed.ensures) at if1.false in
    simp e (spoken _ _ (sent-one write-ok.ensures) (rw (with-inbox.ensures, with-receiving.ensures) at c.done-2.ensures))
