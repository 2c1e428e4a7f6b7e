-- The digit of the line is set, so its power of two can be taken off.
-- Assumes nothing.
use Rattle.std.proofs.Common.{arith}
use Rattle.ledger.proofs.Digits.{clear-le}
use Rattle.ledger.proofs.Ledger.free_line.Goals as goal

pub overflow_sub-self : goal.overflow_sub-self
overflow_sub-self c = omega (arith, c.bit.ensures, clear-le c.args.line c.args.self.now.used c.requires.1)
