-- A line that an answer fits is open.
-- Assumes nothing.
use Rattle.std.proofs.Common.{sym, ◌∙◌, arith}
use Rattle.ledger.proofs.Verdicts.{fits-owns}
use Rattle.ledger.proofs.answer.Goals as goal

pub free_line-requires : goal.free_line-requires
free_line-requires c =
    let o = fits-owns c.args.l c.args.kind c.args.tag _ _ _ (sym c.judge-verdict.ensures ∙ c.in-Fits.is) in
    (omega (arith, o.inside), o.opened)

pub mark-requires : goal.mark-requires
mark-requires c =
    let o = fits-owns c.args.l c.args.kind c.args.tag _ _ _ (sym c.judge-verdict.ensures ∙ c.in-Fits.is) in
    omega (arith, o.inside)
