-- The code's tests are the definition's: a waiting SET_CONFIG, then a waiting TX, then none.
-- Assumes nothing.
use mathlib.Core.Path.{refl}
use Rattle.control.proofs.Laws.{gives, writes_nothing, quiet}
use Rattle.queue.specs.Queue.{start}
use Rattle.queue.proofs.Laws.{after-setting, after-waiting, after_none}
use Rattle.queue.proofs.after_tx.Goals as goal

pub returns-then-was : goal.returns-then-was
returns-then-was c =
    let if1 = c.if-was in
    let configure = c.configure in
    gives _ (after-setting _ _ if1.true) configure.ensures

pub returns-then-waiting-gt0 : goal.returns-then-waiting-gt0
unfolding start
returns-then-waiting-gt0 c =
    let if1 = c.if-was in
    let if2 = c.if-waiting-gt0 in
    gives _ (after-waiting _ _ if1.false if2.true) (writes_nothing _ _ _ refl c.start.ensures)

pub returns : goal.returns
returns c =
    let if1 = c.if-was in
    let if2 = c.if-waiting-gt0 in
    let with-air = c.with_air-e in
    let idle = c.idle in
    gives _ (after_none _ _ if1.false if2.false) (quiet _ _ _ _ (rw (with-air.ensures, idle.ensures) at c.done.ensures))
