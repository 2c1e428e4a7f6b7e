-- The error of a command as the code has it: P 7's code, and 0 for none.
-- Assumes nothing.
use Rattle.std.specs.Prelude.{ℕ}
use Rattle.std.proofs.Math.Option.{Option, none, some}

abbrev pub code_of : Option ℕ → ℕ
code_of none = 0
code_of (some code) = code
