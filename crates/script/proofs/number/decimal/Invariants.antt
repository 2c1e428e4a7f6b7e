-- What the digits that are left are worth after n is what the word is worth.
-- Assumes nothing.
use lib.ListN.{drop}
use mathlib.Core.Path.{◌≡◌}
use Prim.Native.Nat.{◌≤◌}
use Rattle.script.specs.Numbers.{decimal_in}
use Rattle.script.proofs.Numbers.{reading}
use Rattle.script.proofs.number.decimal.Given as goal

abbrev pub invariant-loop-c : goal.invariant-loop-c
invariant-loop-c l = (l.n ≤ l.most) × (decimal_in l.most l.word ≡ reading l.most l.n (drop l.c-index l.word))
