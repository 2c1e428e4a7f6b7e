-- Each arm of the match gives what the definition gives for that radio; the last one stands for a radio that holds nothing of a session.
-- Assumes nothing.
use mathlib.Core.Path.{ap, ◌∙◌}
use native.Mathlib.Omega.{arith}
use Rattle.status.specs.Numbers.{ROOM}
use Rattle.control.specs.declared.Radio.TheVariants.{Listening, OnAir, Configuring}
use Rattle.control.specs.Control.{writes_first, taken, refused}
use Rattle.control.proofs.Laws.{answers, refusal, takes, then, entered, closed}
use Rattle.queue.specs.Queue.{after_tx}
use Rattle.outcome.specs.Outcomes.{fault_out, on_fault, fault_frames}
use Rattle.outcome.proofs.Laws.{fault-other, fault-bounded, from_start}
use Rattle.outcome.proofs.fault.Goals as goal

pub returns-then-out-lt-ROOM_MIN : goal.returns-then-out-lt-ROOM_MIN
unfolding fault_out
returns-then-out-lt-ROOM_MIN c =
    let if1 = c.if-out-lt-ROOM_MIN in
    answers (refused ROOM c.args.d) (closed _ _ _ if1.true) (refusal _ _ _ c.refuse.ensures)

pub returns-in-Listening : goal.returns-in-Listening
unfolding fault_out
returns-in-Listening c =
    let a = c.args in
    let if1 = c.if-out-lt-ROOM_MIN in
    let lost = c.lost in
    answers (taken (on_fault (Listening c.in-Listening.t) a.commands.now a.d))
    (entered _ _ _ if1.false ∙ rw c.in-Listening.is) (takes _ lost.ensures c.take.ensures)

pub returns-in-OnAir : goal.returns-in-OnAir
unfolding fault_out
returns-in-OnAir c =
    let a = c.args in
    let if1 = c.if-out-lt-ROOM_MIN in
    let lost2 = c.lost-in-OnAir in
    answers (taken (on_fault (OnAir c.in-OnAir.t) a.commands.now a.d))
    (entered _ _ _ if1.false ∙ rw c.in-OnAir.is) (takes _ lost2.ensures c.take-in-OnAir.ensures)

pub returns-in-Configuring : goal.returns-in-Configuring
unfolding fault_out
returns-in-Configuring c =
    let a = c.args in
    let if1 = c.if-out-lt-ROOM_MIN in
    let failed = c.failed in
    answers (taken (on_fault Configuring a.commands.now a.d)) (entered _ _ _ if1.false ∙ rw c.in-Configuring.is)
    (takes _ failed.ensures c.take-in-Configuring.ensures)

pub after_tx-requires : goal.after_tx-requires
after_tx-requires c =
    let if1 = c.if-out-lt-ROOM_MIN in
    let write-fault = c.write_fault-w in
    let n = fault-bounded c.args.d.link.session 0 in
    omega (arith, write-fault.ensures.value, write-fault.auto, if1.false)

pub returns-in_default : goal.returns-in_default
unfolding fault_out
returns-in_default c =
    let a = c.args in
    let if1 = c.if-out-lt-ROOM_MIN in
    let write-fault = c.write_fault-w in
    let after-tx = c.after_tx in
    answers (taken (writes_first (fault_frames a.d.link.session 0) (after_tx a.commands.now a.d)))
    (entered _ _ _ if1.false ∙ ap taken (fault-other a.d.air.radio a.commands.now a.d c.in_default.not-Listening c.in_default.not-OnAir
    c.in_default.not-Configuring))
    (takes _ (then (from_start (write-fault.ensures.value, write-fault.ensures.out_after)) after-tx.ensures) c.take-in_default.ensures)
