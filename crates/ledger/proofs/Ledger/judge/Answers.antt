-- The line that was found is one of the ledger's.
-- Assumes nothing.
use Rattle.std.proofs.Common.{sym, ◌∙◌, arith}
use Rattle.ledger.proofs.Owner.{owner-owns}
use Rattle.ledger.proofs.Ledger.judge.Goals as goal

pub bounds-self-line : goal.bounds-self-line
bounds-self-line c =
    let l = c.args.self.now in
    let o = owner-owns l.lines l.used c.args.tag.0 c.in-Some.line (sym c.owner_of.ensures ∙ c.in-Some.is) in
    omega (arith, o.inside)
