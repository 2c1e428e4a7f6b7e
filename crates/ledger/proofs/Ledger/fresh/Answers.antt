-- A vacant candidate decides it. One that is passed is not the one that does, since that one is vacant.
-- Assumes nothing.
use Rattle.std.proofs.Common.{refl, sym, ap, ◌∙◌, arith}
use Rattle.ledger.specs.Lines.{first_vacant, candidates}
use Rattle.ledger.proofs.Vacancy.{fresh-hit, fresh-passed, found-vacant, fresh-nearer}
use Rattle.ledger.proofs.Ledger.fresh.Goals as goal

pub loop-self-init : goal.loop-self-init
loop-self-init c = (omega arith, candidates, refl)

pub loop-self-smaller : goal.loop-self-smaller
loop-self-smaller c =
    let l = c.args.self in
    fresh-nearer l.lines l.used l.counter (omega arith) (omega arith) c.loop-self.tag _ c.loop-self.invariant.0
    (sym c.is_vacant.ensures ∙ c.loop-self-test.true) c.after-tag.ensures

pub loop-self-preserved : goal.loop-self-preserved
loop-self-preserved c =
    let l = c.args.self in
    let v = found-vacant l.lines l.used l.counter (omega arith) (omega arith) in
    let k = c.loop-self.invariant in
    let j = fresh-passed k.1 l.lines l.used c.loop-self.tag v (sym c.is_vacant.ensures ∙ c.loop-self-test.true) k.2 in
    (omega (arith, c.after-tag.ensures), j.0, ap (first_vacant j.0 l.lines l.used) c.after-tag.ensures ∙ j.1)

pub returns : goal.returns
returns c =
    let l = c.args.self in
    let k = c.loop-self.invariant in
    sym (fresh-hit k.1 l.lines l.used c.loop-self.tag (sym c.is_vacant.ensures ∙ c.loop-self-test.false)) ∙ k.2
