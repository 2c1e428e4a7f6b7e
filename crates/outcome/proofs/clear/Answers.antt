-- A TX that listens is on air; any other radio is refused.
-- Assumes nothing.
use mathlib.Core.Path.{refl}
use Rattle.control.specs.declared.Radio.{Radio}
use Rattle.control.proofs.Laws.{returns-refusal, returns-quiet, entered, closed}
use Rattle.outcome.specs.Outcomes.{clear_out, on_clear}
use Rattle.outcome.proofs.Laws.{unless-listening}
use Rattle.outcome.proofs.clear.Goals as goal

pub returns-then-room-lt-ROOM_MIN : goal.returns-then-room-lt-ROOM_MIN
unfolding clear_out
returns-then-room-lt-ROOM_MIN c =
    rw (closed _ _ _ c.if-room-lt-ROOM_MIN.true) (returns-refusal _ _ c.refuse.ensures)

pub returns-in-Listening : goal.returns-in-Listening
unfolding clear_out
returns-in-Listening c =
    let if1 = c.if-room-lt-ROOM_MIN in
    let with-radio = c.with_radio-air in
    let with-air = c.with_air-e in
    rw (entered _ _ _ if1.false, c.in-Listening.is) (returns-quiet _ _ (rw (with-air.ensures, with-radio.ensures) at c.accept.ensures))

pub returns : goal.returns
unfolding clear_out
returns c =
    let if1 = c.if-room-lt-ROOM_MIN in
    let d = c.args.d in
    let e = unless-listening (λ (r : Radio). on_clear r d) refl (λ t. refl) refl refl d.air.radio c.in_default.not-Listening in
    rw (entered _ _ _ if1.false, e) (returns-refusal _ _ c.refuse-2.ensures)
