-- Each answer is where the chain of tests in its definition ends (Laws).
-- Assumes nothing.
use mathlib.Core.Path.{refl}
use Rattle.control.proofs.Laws.{refusal, takes}
use Rattle.link.specs.Link.{byte_out}
use Rattle.link.proofs.Laws.{no_room, stalls, enters}
use Rattle.link.proofs.zero.Goals as goal

pub returns-then-out-lt-ROOM_MIN : goal.returns-then-out-lt-ROOM_MIN
unfolding byte_out
returns-then-out-lt-ROOM_MIN c =
    let if1 = c.if-out-lt-ROOM_MIN in
    rw (no_room _ _ _ c.args.d _ if1.true) (record { answers = refusal _ _ _ c.refuse.ensures; run = refl; commands = refl })

pub returns-then-is_stalled : goal.returns-then-is_stalled
unfolding byte_out
returns-then-is_stalled c =
    let if1 = c.if-out-lt-ROOM_MIN in
    let is-stalled = c.is_stalled in
    let if2 = c.if-is_stalled in
    let s = rw is-stalled.ensures at if2.true in
    rw (stalls _ _ _ c.args.d _ if1.false s) (record { answers = refusal _ _ _ c.refuse-then-is_stalled.ensures; run = refl; commands = refl })

pub returns : goal.returns
unfolding byte_out
returns c =
    let if1 = c.if-out-lt-ROOM_MIN in
    let is-stalled = c.is_stalled in
    let if2 = c.if-is_stalled in
    let end-run = c.end_run in
    let s = rw is-stalled.ensures at if2.false in
    rw (enters _ _ _ c.args.d _ if1.false s)
    (record { answers = takes _ end-run.ensures.gives c.take.ensures; run = refl; commands = end-run.ensures.commands })
