-- Each part is what its word stands for.
-- Assumes nothing.
use mathlib.Core.Path.{refl}
use Rattle.packed.specs.Words.{device_in}
use Rattle.packed.proofs.device_of.Goals as goal

pub returns : goal.returns
unfolding device_in
returns c =
    let Mode-of = c.mode_of-mode in
    let link-of = c.link_of-link in
    let air-of = c.air_of-air in
    simp (Mode-of.ensures, link-of.ensures, air-of.ensures, c.inbox_of-inbox.ensures) refl
