-- Only while configuring; then what `in_force` gives.
-- Assumes nothing.
use mathlib.Core.Path.{◌∙◌}
use Rattle.status.specs.Numbers.{ROOM, PLACE}
use Rattle.control.specs.Control.{taken, refused}
use Rattle.control.proofs.Laws.{answers, refusal, takes, entered, closed}
use Rattle.outcome.specs.Outcomes.{configured_out, in_force}
use Rattle.outcome.proofs.Laws.{configured-other}
use Rattle.outcome.proofs.configured.Goals as goal

pub returns-then-out-lt-ROOM_MIN : goal.returns-then-out-lt-ROOM_MIN
unfolding configured_out
returns-then-out-lt-ROOM_MIN c =
    let if1 = c.if-out-lt-ROOM_MIN in
    answers (refused ROOM c.args.d) (closed _ _ _ if1.true) (refusal _ _ _ c.refuse.ensures)

pub returns-in-Configuring : goal.returns-in-Configuring
unfolding configured_out
returns-in-Configuring c =
    let if1 = c.if-out-lt-ROOM_MIN in
    let in-force = c.in_force in
    let d = c.args.d in
    answers (taken (in_force d.link.session c.args.commands.now d))
    (entered _ _ _ if1.false ∙ rw c.in-Configuring.is) (takes _ in-force.ensures c.take.ensures)

pub returns : goal.returns
unfolding configured_out
returns c =
    let if1 = c.if-out-lt-ROOM_MIN in
    let d = c.args.d in
    answers (refused PLACE d) (entered _ _ _ if1.false ∙ configured-other d.air.radio _ d c.in_default.not-Configuring) (refusal _ _ _ c.refuse-2.ensures)
