-- What the calls promised: first where radio_uid_len stands, then what it is.
-- Assumes nothing.
use mathlib.Core.Path.{ap, ap₂, ◌∙◌}
use Prim.Native.Nat.{ℕ, ◌+◌}
use lib.ListN.{take, drop}
use Rattle.scalar.specs.Scalars.{column, get}
use Rattle.info.specs.Info.{info_size, radio_uid_of}
use Rattle.info.proofs.radio_uid.Goals as goal

pub returns : goal.returns
unfolding radio_uid_of
returns c =
    let byte = c.byte in
    let byte2 = c.byte-2 in
    let p = c.args.payload.now in
    let mcu = byte.ensures in
    let radio = byte2.ensures ∙ ap (λ (k : ℕ). get (column (info_size + k) 1) p) mcu in
    c.part.ensures ∙ ap₂ (λ (n k : ℕ). take n (drop (info_size + k + 1) p)) radio mcu
