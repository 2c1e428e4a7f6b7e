-- The type says which values are looked at; the size says that they are there.
-- Assumes nothing.
use mathlib.Core.Path.{ap}
use Prim.Native.Nat.{ℕ}
use native.Mathlib.Omega.{arith}
use lib.Dec.{leb}
use Rattle.scalar.proofs.Laws.{get-byte}
use Rattle.validation.proofs.Laws.{tx-size}
use Rattle.validation.proofs.is_good.Goals as goal

pub returns-then-kind-eq-TX : goal.returns-then-kind-eq-TX
returns-then-kind-eq-TX c =
    let if2 = c.if-kind-eq-TX in
    let p = c.args.payload.now in
    let h = tx-size p (rw if2.true at c.requires.payload_value) in
    rw if2.true (ap (λ (f : ℕ). leb f 1) (get-byte 0 p (omega arith)))
