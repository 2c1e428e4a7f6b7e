-- The payload is two bytes and then the payload of the SET_CONFIG as it came; of the memory that it is put together in, no more is written.
-- Assumes nothing.
use mathlib.Core.Path.{◌≡◌}
use mathlib.Core.List.{◌∷◌}
use Prim.Native.Nat.{◌+◌}
use native.Mathlib.Omega.{arith}
use lib.ListN.{take, replicate}
use Rattle.outcome.proofs.Laws.{length_part, two-before}
use Rattle.outcome.proofs.write_configured.Goals as goal

pub returns : goal.returns
returns c =
    let len-at = c.len_at-len in
    let u16-at = c.u16_at-tag in
    let part = c.part-current in
    let copy = c.copy in
    let write = c.write in
    let n = length_part (len-at.result + 1) 4147 c.args.commands.now (omega (arith, len-at.ensures.1)) part.ensures in
    let e : take (2 + len-at.result + 1) copy.new.dst ≡ 0 ∷ (1 ∷ part.result.now) = rw copy.ensures (two-before 0 1 _ (replicate 256 0) _ n) in
    rw (u16-at.ensures, e, part.ensures, len-at.ensures.0) at write.ensures
