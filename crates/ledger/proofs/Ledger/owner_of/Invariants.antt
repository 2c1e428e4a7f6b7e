-- The invariant: the lines passed have not decided it.
-- Assumes nothing.
use Rattle.std.proofs.Common.{◌≡◌}
use Rattle.ledger.specs.Lines.{owner}
use Rattle.ledger.proofs.Owner.{owner_past}
use Rattle.ledger.proofs.Ledger.owner_of.Given as goal

abbrev pub invariant-loop-i : goal.invariant-loop-i
invariant-loop-i l = owner_past l.i l.fn.self.lines l.fn.self.used l.tag.0 ≡ owner l.fn.self.lines l.fn.self.used l.tag.0
