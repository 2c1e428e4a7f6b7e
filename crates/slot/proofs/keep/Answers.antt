-- A slot begins at its number times its size.
-- Assumes nothing.
use Rattle.slot.specs.Slots.{command_kept}
use Rattle.slot.proofs.keep.Goals as goal

pub returns : goal.returns
unfolding command_kept
returns c =
    c.put.ensures
