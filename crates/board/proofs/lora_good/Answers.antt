-- The tests are 01's own numbers, with the power read back from its bits.
-- Assumes nothing.
use mathlib.Core.Bool.{and_assoc}
use native.Mathlib.Omega.{arith}
use mir.Facts.{to_z-of_z}
use mir.Syntax.{w8}
use Rattle.modulation.specs.Ranges.{LoraIn}
use Rattle.board.specs.Board.{sx1262}
use Rattle.board.proofs.Laws.{lora-taken}
use Rattle.board.proofs.lora_good.Goals as goal

pub returns : goal.returns
unfolding sx1262
returns c =
    let freq-good = c.freq_good-freq in
    let freq = freq-good.ensures in
    let r : LoraIn c.args.m = omega (arith, c.well_formed) in
    let power = to_z-of_z {w = w8} {z = c.args.m.tx_power_dbm} record { sfits = r.tx_power_dbm } in
    rw (lora-taken c.args.m) (simp (freq, power, and_assoc))
