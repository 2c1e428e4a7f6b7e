-- The run is judged by its length (Laws), and what follows is the callee's.
-- Assumes nothing.
use mathlib.Core.Path.{refl}
use Rattle.control.proofs.Laws.{quiet}
use Rattle.link.proofs.Laws.{no_run, long-run, short-run}
use Rattle.link.proofs.end_run.Goals as goal

pub returns-then-n-eq0 : goal.returns-then-n-eq0
returns-then-n-eq0 c =
    let if1 = c.if-n-eq0 in
    rw (no_run c.args.run.now c.args.commands.now c.args.d if1.true)
    (record { gives = quiet _ _ _ 0 c.done.ensures; commands = refl })

pub returns-then-n-gt-RUN_MAX : goal.returns-then-n-gt-RUN_MAX
returns-then-n-gt-RUN_MAX c =
    let with-link = c.with_link-e in
    let if2 = c.if-n-gt-RUN_MAX in
    let damaged = c.damaged in
    rw (long-run c.args.run.now c.args.commands.now c.args.d if2.true)
    (record { gives = rw with-link.ensures at damaged.ensures; commands = refl })

pub returns : goal.returns
returns c =
    let if1 = c.if-n-eq0 in
    let with-link = c.with_link-e in
    let if2 = c.if-n-gt-RUN_MAX in
    let receive = c.receive in
    rw (short-run c.args.run.now c.args.commands.now c.args.d if1.false if2.false) (rw with-link.ensures at receive.ensures)
