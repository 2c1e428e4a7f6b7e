-- A line has 58 bytes at most.
-- Assumes nothing.
use Prim.Native.Nat.{ℕ, ◌≤◌}
use native.Mathlib.Omega.{arith}
use lib.Dec.{lit≤}
use lib.ListN.{length, length-append}
use Rattle.frame.specs.declared.Opened.{Opened}
use Rattle.frame.specs.declared.Opened.TheVariants as O
use Rattle.text.proofs.Digits.{length-decimal}
use Rattle.line.specs.Lines.{hex4, type_column, tag_column, len_column, two_columns, line, line_max}
use Rattle.line.proofs.Names.{length-name}

length-type : (o : Opened) → length (type_column o) ≤ 10
length-type (O.Body kind tag len) = length-name kind
length-type (O.Refused r) = lit≤ tt

length-tag : (o : Opened) → length (tag_column o) ≤ 4
unfolding hex4
length-tag (O.Body kind tag len) = lit≤ tt
length-tag (O.Refused r) = lit≤ tt

pub length-line : (at : ℕ) (o : Opened) (n : ℕ) → length (line at o n) ≤ line_max
unfolding line two_columns
length-line at o n =
    simp length-append
    (omega (arith, length-decimal at, length-type o, length-tag o, length-decimal (len_column o n)))
