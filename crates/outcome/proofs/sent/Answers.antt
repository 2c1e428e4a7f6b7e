-- What was on air is reported, an orphan is not, and then all goes on as after a TX.
-- Assumes nothing.
use mathlib.Core.Path.{◌∙◌}
use native.Mathlib.Omega.{arith}
use Rattle.status.specs.Numbers.{ROOM, PLACE}
use Rattle.kind.specs.Kinds.{TRANSMITTED}
use Rattle.emit.proofs.Laws.{sent-one, length-done}
use Rattle.control.specs.declared.Radio.TheVariants.{OnAir, Orphan}
use Rattle.control.specs.Control.{refused}
use Rattle.control.proofs.Laws.{answers, refusal, takes, then, entered, closed}
use Rattle.outcome.specs.Outcomes.{sent_out, on_sent}
use Rattle.outcome.proofs.Laws.{sent-other}
use Rattle.outcome.proofs.sent.Goals as goal

pub returns-then-out-lt-ROOM_MIN : goal.returns-then-out-lt-ROOM_MIN
unfolding sent_out
returns-then-out-lt-ROOM_MIN c =
    let if1 = c.if-out-lt-ROOM_MIN in
    answers (refused ROOM c.args.d) (closed _ _ _ if1.true) (refusal _ _ _ c.refuse.ensures)

pub after_tx-requires : goal.after_tx-requires
after_tx-requires c =
    let if1 = c.if-out-lt-ROOM_MIN in
    let write-tx-done = c.write_tx_done-w in
    omega (arith, write-tx-done.ensures.ends, length-done TRANSMITTED c.args.airtime c.in-OnAir.t, write-tx-done.auto, if1.false)

pub returns-in-OnAir : goal.returns-in-OnAir
unfolding sent_out
returns-in-OnAir c =
    let a = c.args in
    let if1 = c.if-out-lt-ROOM_MIN in
    let write-tx-done = c.write_tx_done-w in
    let after-tx = c.after_tx in
    answers (on_sent a.airtime (OnAir c.in-OnAir.t) a.commands.now a.d) (entered _ _ _ if1.false ∙ rw c.in-OnAir.is)
    (takes _ (then (sent-one write-tx-done.ensures) after-tx.ensures) c.take.ensures)

pub returns-in-Orphan : goal.returns-in-Orphan
unfolding sent_out
returns-in-Orphan c =
    let a = c.args in
    let if1 = c.if-out-lt-ROOM_MIN in
    let after-tx2 = c.after_tx-in-Orphan in
    answers (on_sent a.airtime Orphan a.commands.now a.d) (entered _ _ _ if1.false ∙ rw c.in-Orphan.is)
    (takes _ after-tx2.ensures c.take-in-Orphan.ensures)

pub returns-in_default : goal.returns-in_default
unfolding sent_out
returns-in_default c =
    let a = c.args in
    let if1 = c.if-out-lt-ROOM_MIN in
    answers (refused PLACE a.d)
    (entered _ _ _ if1.false ∙ sent-other a.airtime a.d.air.radio a.commands.now a.d c.in_default.not-OnAir c.in_default.not-Orphan)
    (refusal _ _ _ c.refuse-in_default.ensures)
