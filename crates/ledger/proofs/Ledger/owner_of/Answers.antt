-- A line passed has not the tag, and the one that is hit has it. Behind the last open line none has it.
-- Assumes nothing.
use Rattle.std.proofs.Common.{sym, ◌∙◌, ap, ◌/◌, ◌^◌, ◌<◌, arith, length}
use Rattle.std.proofs.lemmas.List.{get_or-take}
use Rattle.ledger.specs.Lines.{no_line, has_tag}
use Rattle.ledger.proofs.Owner.{owner_at, owner-end}
use Rattle.ledger.proofs.Ledger.owner_of.Goals as goal

pub returns-then-has_tag : goal.returns-then-has_tag
returns-then-has_tag c =
    let l = c.args.self.now in
    let i = c.loop-i.i in
    let at : i < length l.lines = omega arith in
    let here = ap (λ x. has_tag c.args.tag.0 x (l.used / 2 ^ i)) (get_or-take _ l.lines i no_line (omega arith)) in
    sym (owner_at l.lines i l.used c.args.tag.0 at (sym here ∙ sym c.has_tag.ensures ∙ c.if-has_tag.true)) ∙ c.loop-i.invariant

pub loop-i-preserved : goal.loop-i-preserved
loop-i-preserved c =
    let l = c.args.self.now in
    let i = c.loop-i.i in
    let at : i < length l.lines = omega arith in
    let here = ap (λ x. has_tag c.args.tag.0 x (l.used / 2 ^ i)) (get_or-take _ l.lines i no_line (omega arith)) in
    sym (owner_at l.lines i l.used c.args.tag.0 at (sym here ∙ sym c.has_tag.ensures ∙ c.if-has_tag.false)) ∙ c.loop-i.invariant

pub returns : goal.returns
returns c = let l = c.args.self.now in sym (owner-end l.lines c.loop-i.i l.used c.args.tag.0 (omega arith) (omega arith)) ∙ c.loop-i.invariant
