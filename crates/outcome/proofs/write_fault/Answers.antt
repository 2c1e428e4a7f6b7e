-- One ERR in an open session, and else nothing.
-- Assumes nothing.
use native.Mathlib.Omega.{arith}
use Rattle.emit.proofs.Laws.{sent-one, sent-none}
use Rattle.outcome.proofs.write_fault.Goals as goal

pub returns-then-session : goal.returns-then-session
returns-then-session c =
    let if1 = c.if-session in
    let write-err = c.write_err in
    let s = sent-one write-err.ensures in
    record { value = rw if1.true (omega (arith, s.ends)); out_after = rw if1.true (s.lays) }

pub returns : goal.returns
returns c =
    let s = sent-none c.args.out.now 0 in
    record { value = rw c.if-session.false (omega (arith, s.ends)); out_after = rw c.if-session.false (s.lays) }
