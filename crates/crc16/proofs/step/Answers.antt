-- The shifts are eight bits of the register, which fits 16 bits.
-- Assumes nothing.
use mathlib.Core.Path.{◌≡◌, ap, ◌∙◌}
use Prim.Native.Nat.{ℕ, ◌*◌, ◌%◌}
use native.Mathlib.Omega.{arith}
use lib.Bits.{bit_xor, xor_lt}
use Rattle.crc16.specs.Crc.{byte}
use Rattle.crc16.proofs.Fold.{fold, fold_is}
use Rattle.crc16.proofs.step.Goals as goal

pub returns : goal.returns
unfolding byte
returns c =
    let crc = c.args.c in
    let b = c.args.b in
    let e : b * 0x100 % 0x10000 ≡ b * 0x100 = omega arith in
    ap (λ (x : ℕ). fold (bit_xor crc x)) e
    ∙ fold_is (bit_xor crc (b * 0x100)) (xor_lt 16 crc (b * 0x100) (omega arith) (omega arith))
