-- Field by field. A signed field is read from its bits, which it fits.
-- Assumes nothing.
use Prim.Native.Nat.{◌<◌}
use native.Mathlib.Omega.{arith}
use lib.Signed.{mag}
use mir.Facts.{to_z-of_z}
use mir.Syntax.{w16, w32}
use Rattle.scalar.specs.Scalars.{sign16, sign32}
use Rattle.ffi_radio.specs.PacketStatus.{status_in}
use Rattle.ffi_radio.proofs.status_of.Goals as goal

pub returns : goal.returns
unfolding status_in
returns c =
    let h = c.args.h in
    let a : mag h.rssi < sign16 = omega (arith, c.well_formed) in
    let b : mag h.snr < sign16 = omega (arith, c.well_formed) in
    let d : mag h.freq_err < sign32 = omega (arith, c.well_formed) in
    simp (
      to_z-of_z {w = w16} {z = h.rssi} record { sfits = a },
      to_z-of_z {w = w16} {z = h.snr} record { sfits = b },
      to_z-of_z {w = w32} {z = h.freq_err} record { sfits = d },
    )
