-- What the calls promised, of each number its first bytes; a byte modulo 256 is itself. Byte by byte, since `rw` would compute the whole head at every step.
-- Assumes nothing.
use mathlib.Core.Path.{sym, ap, ◌∙◌}
use mathlib.Core.List.{[], ◌∷◌}
use native.Mathlib.Nat.{mod-eq_of_lt}
use native.Mathlib.Omega.{arith}
use lib.ListN.{get_or}
use mir.Facts.{to_z-of_z}
use mir.Syntax.{w8}
use Rattle.buffer.specs.Lay.{lay}
use Rattle.scalar.specs.Scalars.{le, sign8, unsigned}
use Rattle.scalar.proofs.Laws.{unsigned-below}
use Rattle.info.specs.Info.{info_head}
use Rattle.info.specs.Ranges.{InfoIn}
use Rattle.info.proofs.info_head.Goals as goal

pub returns : goal.returns
unfolding info_head lay le
returns c =
    let bytes-of-u64 = c.bytes_of_u64-chip in
    let bytes-of-u642 = c.bytes_of_u64-cap in
    let bytes-of-u643 = c.bytes_of_u64-sf in
    let bytes-of-u644 = c.bytes_of_u64-bw in
    let bytes-of-u645 = c.bytes_of_u64-most in
    let bytes-of-u646 = c.bytes_of_u64-rx in
    let bytes-of-u647 = c.bytes_of_u64-tx in
    let bytes-of-u648 = c.bytes_of_u64-low in
    let bytes-of-u649 = c.bytes_of_u64-high in
    let u8-of = c.u8_of-weak in
    let m = c.args.m in
    let r : InfoIn m = omega (arith, c.well_formed) in
    let chip = bytes-of-u64.ensures in
    let cap = bytes-of-u642.ensures in
    let sf = bytes-of-u643.ensures in
    let bw = bytes-of-u644.ensures in
    let most = bytes-of-u645.ensures in
    let rx = bytes-of-u646.ensures in
    let tx = bytes-of-u647.ensures in
    let low = bytes-of-u648.ensures in
    let high = bytes-of-u649.ensures in
    let a = mod-eq_of_lt (unsigned-below sign8 _ r.tx_power_min_dbm) in
    let b = mod-eq_of_lt (unsigned-below sign8 _ r.tx_power_max_dbm) in
    let weak = u8-of.ensures ∙ ap (unsigned sign8) (to_z-of_z {w = w8} record { sfits = r.tx_power_min_dbm }) ∙ sym a in
    let strong = c.u8_of-strong.ensures ∙ ap (unsigned sign8) (to_z-of_z {w = w8} record { sfits = r.tx_power_max_dbm }) ∙ sym b in
    λ i.
    sym (mod-eq_of_lt r.proto_major) i
    ∷ sym (mod-eq_of_lt r.proto_minor) i
    ∷ sym (mod-eq_of_lt r.fw_major) i
    ∷ sym (mod-eq_of_lt r.fw_minor) i
    ∷ sym (mod-eq_of_lt r.fw_patch) i
    ∷ get_or (chip i) 0 0 ∷ get_or (chip i) 1 0
    ∷ get_or (cap i) 0 0 ∷ get_or (cap i) 1 0 ∷ get_or (cap i) 2 0 ∷ get_or (cap i) 3 0
    ∷ get_or (cap i) 4 0 ∷ get_or (cap i) 5 0 ∷ get_or (cap i) 6 0 ∷ get_or (cap i) 7 0
    ∷ get_or (sf i) 0 0 ∷ get_or (sf i) 1 0
    ∷ get_or (bw i) 0 0 ∷ get_or (bw i) 1 0
    ∷ get_or (most i) 0 0 ∷ get_or (most i) 1 0
    ∷ get_or (rx i) 0 0 ∷ get_or (rx i) 1 0
    ∷ get_or (tx i) 0 0 ∷ get_or (tx i) 1 0
    ∷ get_or (low i) 0 0 ∷ get_or (low i) 1 0 ∷ get_or (low i) 2 0 ∷ get_or (low i) 3 0
    ∷ get_or (high i) 0 0 ∷ get_or (high i) 1 0 ∷ get_or (high i) 2 0 ∷ get_or (high i) 3 0
    ∷ weak i
    ∷ strong i
    ∷ sym (mod-eq_of_lt r.mcu_uid_len) i
    ∷ []
