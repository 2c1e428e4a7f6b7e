-- What listened is reported, and then all goes on as after a TX.
-- Assumes nothing.
use mathlib.Core.Path.{refl, ◌∙◌}
use native.Mathlib.Omega.{arith}
use Rattle.status.specs.Numbers.{ROOM, PLACE}
use Rattle.kind.specs.Kinds.{CHANNEL_BUSY}
use Rattle.emit.proofs.Laws.{sent-one, length-done}
use Rattle.control.specs.declared.Radio.{Radio}
use Rattle.control.specs.declared.Radio.TheVariants.{Listening}
use Rattle.control.specs.Control.{refused}
use Rattle.control.proofs.Laws.{answers, refusal, takes, then, entered, closed}
use Rattle.outcome.specs.Outcomes.{busy_out, on_busy}
use Rattle.outcome.proofs.Laws.{unless-listening}
use Rattle.outcome.proofs.busy.Goals as goal

pub returns-then-out-lt-ROOM_MIN : goal.returns-then-out-lt-ROOM_MIN
unfolding busy_out
returns-then-out-lt-ROOM_MIN c =
    let if1 = c.if-out-lt-ROOM_MIN in
    answers (refused ROOM c.args.d) (closed _ _ _ if1.true) (refusal _ _ _ c.refuse.ensures)

pub after_tx-requires : goal.after_tx-requires
after_tx-requires c =
    let if1 = c.if-out-lt-ROOM_MIN in
    let write-tx-done = c.write_tx_done-w in
    omega (arith, write-tx-done.ensures.ends, length-done CHANNEL_BUSY 0 c.in-Listening.tag, write-tx-done.auto, if1.false)

pub returns-in-Listening : goal.returns-in-Listening
unfolding busy_out
returns-in-Listening c =
    let if1 = c.if-out-lt-ROOM_MIN in
    let write-tx-done = c.write_tx_done-w in
    let after-tx = c.after_tx in
    let d = c.args.d in
    answers (on_busy (Listening c.in-Listening.tag) c.args.commands.now d) (entered _ _ _ if1.false ∙ rw c.in-Listening.is)
    (takes _ (then (sent-one write-tx-done.ensures) after-tx.ensures) c.take.ensures)

pub returns : goal.returns
unfolding busy_out
returns c =
    let if1 = c.if-out-lt-ROOM_MIN in
    let d = c.args.d in
    let e = unless-listening (λ (r : Radio). on_busy r c.args.commands.now d) refl (λ t. refl) refl refl d.air.radio c.in_default.not-Listening in
    answers (refused PLACE d) (entered _ _ _ if1.false ∙ e) (refusal _ _ _ c.refuse-2.ensures)
