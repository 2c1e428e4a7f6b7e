-- Each answer is where the chain of tests in its definition ends.
-- Assumes nothing.
use Rattle.control.proofs.Laws.{returns-refusal, returns-taken, returns-quiet, entered, closed}
use Rattle.session.specs.Session.{disconnect_out}
use Rattle.session.proofs.disconnect.Goals as goal

pub returns-then-room-lt-ROOM_MIN : goal.returns-then-room-lt-ROOM_MIN
unfolding disconnect_out
returns-then-room-lt-ROOM_MIN c =
    rw (closed _ _ _ c.if-room-lt-ROOM_MIN.true) (returns-refusal _ _ c.refuse.ensures)

pub returns-then-link : goal.returns-then-link
unfolding disconnect_out
returns-then-link c =
    let if1 = c.if-room-lt-ROOM_MIN in
    let if2 = c.if-link in
    let end-session = c.end_session in
    rw (entered _ _ _ if1.false) (simp if2.true (returns-taken _ end-session.ensures c.take.ensures))

pub returns : goal.returns
unfolding disconnect_out
returns c =
    let if1 = c.if-room-lt-ROOM_MIN in
    let if2 = c.if-link in
    let with-link = c.with_link-e in
    rw (entered _ _ _ if1.false) (simp if2.false (returns-quiet _ _ (rw with-link.ensures at c.accept.ensures)))
