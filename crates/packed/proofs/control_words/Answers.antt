-- Each word is its part's.
-- Assumes nothing.
use mathlib.Core.Path.{refl}
use Rattle.packed.specs.Words.{control_words}
use Rattle.packed.proofs.control_words.Goals as goal

pub returns : goal.returns
unfolding control_words
returns c =
    let mode-number = c.mode_number in
    let link-word = c.link_word in
    let air-word = c.air_word in
    simp (mode-number.ensures, link-word.ensures, air-word.ensures, c.inbox_word.ensures) refl
