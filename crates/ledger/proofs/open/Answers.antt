-- The line of the next place is free.
-- Assumes nothing.
use Rattle.std.proofs.Common.{sym, ◌∙◌, arith}
use Rattle.ledger.proofs.Openings.{place-free}
use Rattle.ledger.proofs.open.Goals as goal

pub take-ledger-requires : goal.take-ledger-requires
take-ledger-requires c = place-free c.args.l c.args.command _ (omega arith) (sym c.next_place-opened.ensures ∙ c.in-Ok.is)
