-- What is written to a slot.
-- Assumes nothing.
use Prim.Native.Nat.{ℕ, ◌+◌, ◌-◌, ◌≤◌}
use native.Mathlib.Omega.{arith}
use mathlib.Core.Path.{◌≡◌, ap, ◌∙◌}
use mathlib.Core.List.{List, ◌∷◌}
use lib.ListN.{length, set}
use Rattle.buffer.specs.Lay.{lay}
use Rattle.buffer.proofs.Laws.{lay-lay, lay-next}
use Rattle.scalar.specs.Scalars.{le}
use Rattle.slot.specs.Slots.{slot_bytes}

-- the length, the tag and the payload, one after another
pub slot-laid : (at t : ℕ) (p d : List ℕ) → at + 3 ≤ length d
    → lay (at + 3) p (lay (at + 1) (le 2 t) (set d at (length p - 1))) ≡ lay at (slot_bytes t p) d
unfolding le
slot-laid at t p d h =
    ap (lay (at + 3) p) (lay-next at (length p - 1) (le 2 t) d (omega arith)) ∙ lay-lay at ((length p - 1) ∷ le 2 t) d h p
