-- An empty run lays nothing.
-- Assumes nothing.
use mathlib.Core.Path.{sym}
use native.Mathlib.Nat.{add-zero}
use borrow.Author.Tests.{eq-eqb, ne_eqb}
use Rattle.buffer.proofs.Laws.{lay-none}
use Rattle.capture.specs.Stream.{line_run}
use Rattle.capture.proofs.write_line.Goals as goal

pub returns-then-n-eq0 : goal.returns-then-n-eq0
unfolding line_run
returns-then-n-eq0 c =
    let e = eq-eqb _ _ c.if-n-eq0.true in
    record { value = simp e (sym (add-zero _)); dst_after = simp e (sym (lay-none _ _)) }

pub line-requires : goal.line-requires
unfolding line_run
line-requires c =
    let if1 = c.if-n-eq0 in
    let open-run = c.open_run in
    rw open-run.ensures (rw (ne_eqb _ 0 if1.false) at c.requires.run_in_bounds)

pub returns : goal.returns
unfolding line_run
returns c =
    let if1 = c.if-n-eq0 in
    let open-run = c.open_run in
    let line = c.line in
    let e = ne_eqb _ 0 if1.false in
    record { value = rw (e, ← open-run.ensures) line.ensures.value; dst_after = rw (e, ← open-run.ensures) line.ensures.dst_after }
