-- The digit of the line is clear, so its power of two can be added: the sum has sixteen digits.
-- Assumes nothing.
use Rattle.std.proofs.Common.{arith}
use Rattle.ledger.proofs.Digits.{set-lt}
use Rattle.ledger.proofs.Ledger.take.Goals as goal

pub overflow_add-result : goal.overflow_add-result
overflow_add-result c =
    omega (arith, c.bit.ensures, set-lt 16 c.args.place.line c.args.self.used c.requires.0 (omega arith) c.requires.1)
