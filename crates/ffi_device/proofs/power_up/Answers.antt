-- Each array is stored whole.
-- Assumes nothing.
use mathlib.Core.Path.{refl}
use Rattle.ffi_device.proofs.power_up.Goals as goal

pub returns : goal.returns
returns c =
    rw (c.control_words.ensures, c.power_up.ensures) refl
