-- Each answer is where the chain of tests in its definition ends.
-- Assumes nothing.
use Prim.Native.Nat.{◌+◌}
use native.Mathlib.Omega.{arith}
use borrow.Author.Tests.{le-leb, lt-leb}
use Rattle.device.specs.Events.{ticks_max}
use Rattle.control.proofs.Laws.{returns-refusal, returns-taken, returns-quiet, entered, closed}
use Rattle.session.specs.Session.{tick_out}
use Rattle.session.proofs.tick.Goals as goal

pub returns-then-room-lt-ROOM_MIN : goal.returns-then-room-lt-ROOM_MIN
unfolding tick_out
returns-then-room-lt-ROOM_MIN c =
    rw (closed _ _ _ c.if-room-lt-ROOM_MIN.true) (returns-refusal _ _ c.refuse.ensures)

pub returns-then-ticks : goal.returns-then-ticks
unfolding tick_out
returns-then-ticks c =
    let if1 = c.if-room-lt-ROOM_MIN in
    let is-stalled = c.is_stalled in
    let if2 = c.if-link-is_stalled in
    let if3 = c.if-ticks in
    let end-session = c.end_session in
    let e = rw is-stalled.ensures at if2.true in
    let t = le-leb ticks_max (c.args.d.link.ticks + 1) (omega (arith, if3.true)) in
    rw (entered _ _ _ if1.false) (simp (e, t) (returns-taken _ end-session.ensures c.take.ensures))

pub returns-then-link-is_stalled : goal.returns-then-link-is_stalled
unfolding tick_out
returns-then-link-is_stalled c =
    let if1 = c.if-room-lt-ROOM_MIN in
    let is-stalled = c.is_stalled in
    let if2 = c.if-link-is_stalled in
    let if3 = c.if-ticks in
    let with-link = c.with_link-e in
    let e = rw is-stalled.ensures at if2.true in
    let t = lt-leb ticks_max (c.args.d.link.ticks + 1) (omega (arith, if3.false)) in
    rw (entered _ _ _ if1.false) (simp (e, t) (returns-quiet _ _ (rw with-link.ensures at c.accept.ensures)))

pub returns : goal.returns
unfolding tick_out
returns c =
    let if1 = c.if-room-lt-ROOM_MIN in
    let is-stalled = c.is_stalled in
    let if2 = c.if-link-is_stalled in
    let e = rw is-stalled.ensures at if2.false in
    rw (entered _ _ _ if1.false) (simp e (returns-quiet _ _ c.accept-2.ensures))
