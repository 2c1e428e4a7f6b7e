-- Each answer is where the chain of tests in its definition ends (Laws).
-- Assumes nothing.
use mathlib.Core.Path.{refl}
use Rattle.control.proofs.Laws.{returns-refusal, returns-quiet}
use Rattle.link.specs.Link.{join_out}
use Rattle.link.proofs.Laws.{no_room, stalls, join-enters}
use Rattle.link.proofs.join.Goals as goal

pub returns-then-room-lt-ROOM_MIN : goal.returns-then-room-lt-ROOM_MIN
unfolding join_out
returns-then-room-lt-ROOM_MIN c =
    record {
      returns = rw (no_room _ _ _ c.args.d _ c.if-room-lt-ROOM_MIN.true) (returns-refusal _ _ c.refuse.ensures);
      run_after = rw
          (no_room _ _ _ c.args.d _ c.if-room-lt-ROOM_MIN.true) (refl);
    }

pub returns-then-is_stalled : goal.returns-then-is_stalled
unfolding join_out
returns-then-is_stalled c =
    let if1 = c.if-room-lt-ROOM_MIN in
    let is-stalled = c.is_stalled in
    let if2 = c.if-is_stalled in
    let s = rw is-stalled.ensures at if2.true in
    record {
      returns = rw (stalls _ _ _ c.args.d _ if1.false s) (returns-refusal _ _ c.refuse-then-is_stalled.ensures);
      run_after = rw
          (stalls _ _ _ c.args.d _ if1.false s) (refl);
    }

pub returns : goal.returns
returns c =
    let a = c.args in
    let if1 = c.if-room-lt-ROOM_MIN in
    let is-stalled = c.is_stalled in
    let if2 = c.if-is_stalled in
    let keep = c.keep in
    let with-link = c.with_link-e in
    let s = rw is-stalled.ensures at if2.false in
    record {
      returns = rw (join-enters a.room a.b a.run.now a.d if1.false s)
          (returns-quiet _ _ (rw (with-link.ensures, keep.ensures.value) at c.accept.ensures));
      run_after = rw (join-enters a.room a.b a.run.now a.d if1.false s)
          (keep.ensures.run_after);
    }
