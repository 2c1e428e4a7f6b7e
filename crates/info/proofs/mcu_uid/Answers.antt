-- What the calls promised.
-- Assumes nothing.
use mathlib.Core.Path.{ap, ◌∙◌}
use Prim.Native.Nat.{ℕ}
use lib.ListN.{take, drop}
use Rattle.info.specs.Info.{info_size, mcu_uid_of}
use Rattle.info.proofs.mcu_uid.Goals as goal

pub returns : goal.returns
unfolding mcu_uid_of
returns c =
    let byte = c.byte in
    c.part.ensures ∙ ap (λ (n : ℕ). take n (drop info_size c.args.payload.now)) byte.ensures
