-- Not all sixteen lines are open.
-- Assumes nothing.
use Rattle.std.proofs.Common.{◌∙◌, arith}
use Rattle.ledger.proofs.Digits.{not_full}
use Rattle.ledger.proofs.Ledger.next_place.Goals as goal

pub lowest_free-requires : goal.lowest_free-requires
lowest_free-requires c = not_full 16 c.args.self.used (omega arith) (λ e. c.if-open_lines-eq-LINES.false (c.open_lines.ensures ∙ e))
