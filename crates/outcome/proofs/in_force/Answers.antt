-- In an open session the OK is written and the mode is that of the SET_CONFIG; else nothing is said.
-- Assumes nothing.
use mathlib.Core.Path.{ap, ◌∙◌}
use mathlib.Core.Bool.{Bool, true, false}
use Rattle.emit.proofs.Laws.{sent-one}
use Rattle.control.proofs.Laws.{gives, spoken, quiet}
use Rattle.outcome.specs.Outcomes.{in_force}
use Rattle.outcome.proofs.in_force.Goals as goal

pub returns-then-link : goal.returns-then-link
returns-then-link c =
    let with-radio = c.with_radio-air in
    let if1 = c.if-link in
    let write-configured = c.write_configured-w in
    let Mode-of = c.mode_of-mode in
    let rearm = c.rearm-order in
    let d = c.args.d in
    let m = c.args.commands.now in
    gives (in_force true m d) (ap (λ (b : Bool). in_force b m d) if1.true)
    (spoken _ _ (sent-one write-configured.ensures) (c.done.ensures ∙ simp (rearm.ensures, Mode-of.ensures, with-radio.ensures)))

pub returns : goal.returns
returns c =
    let with-radio = c.with_radio-air in
    let if1 = c.if-link in
    let with-air = c.with_air-e in
    let d = c.args.d in
    let m = c.args.commands.now in
    gives (in_force false m d) (ap (λ (b : Bool). in_force b m d) if1.false)
    (quiet _ _ _ 0 (rw (with-air.ensures, with-radio.ensures) at c.done-2.ensures))
