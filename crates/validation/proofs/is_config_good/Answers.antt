-- A payload that has its size but not its form has a sync word that is too long, and the board does not take that.
-- Assumes nothing.
use mathlib.Core.Path.{sym, ap, ◌∙◌}
use borrow.Author.Tests.{not-true}
use lib.ListN.{length}
use Rattle.form.specs.declared.Form.{Form}
use Rattle.form.specs.Forms.{exactly}
use Rattle.modulation.specs.Modulations.{config_form}
use Rattle.board.specs.Board.{sx1262}
use Rattle.validation.proofs.Laws.{shape, unfit}
use Rattle.validation.proofs.is_config_good.Goals as goal

pub returns-then-not-exactly : goal.returns-then-not-exactly
returns-then-not-exactly c =
    let config-form = c.config_form in
    let exactly' = c.exactly in
    let p = c.args.payload.now in
    let same = exactly'.ensures ∙ ap (λ (f : Form). exactly f (length p)) config-form.ensures in
    unfit p sx1262 (shape p c.requires.payload_value c.requires.payload_value_2) (sym same ∙ c.if-not-exactly.true)
