-- What an answer is to a ledger: the cases of its definition, and that the line of one that fits is open and has its tag.
-- Assumes nothing.
use Rattle.std.proofs.Common.{◌≡◌, ℕ, Bool, true, false, cond, ◌&&◌, ◌||◌, refl, ap, ◌∙◌, eqb}
use Rattle.std.specs.Prelude.{Option, Some, None}
use Rattle.kind.specs.Kinds.{ERR, RX}
use Rattle.ledger.specs.declared.DongleTag.{DongleTag}
use Rattle.ledger.specs.declared.Ledger.{Ledger}
use Rattle.ledger.specs.declared.Verdict.TheVariants as J
use Rattle.ledger.specs.Lines.{line_at, owner, awaits}
use Rattle.ledger.specs.History.{Owns}
use Rattle.ledger.specs.Calls.{verdict_at, verdict_by, verdict_of}
use Rattle.ledger.proofs.Owner.{owner-owns}

-- by whether it is nobody's, and whether its tag is zero
pub verdict-by : (l : Ledger) (kind : ℕ) (t : DongleTag) {b z : Bool} → (eqb kind RX || (eqb kind ERR && eqb t.0 0)) ≡ b → eqb t.0 0 ≡ z
    → verdict_of l kind t ≡ cond b J.Nobody (cond z J.Unexpected (verdict_by l kind (owner l.lines l.used t.0)))
unfolding verdict_of
verdict-by l kind t eb ez = λ i. cond (eb i) J.Nobody (cond (ez i) J.Unexpected (verdict_by l kind (owner l.lines l.used t.0)))

-- the line of one that fits
pub fits-owns : (l : Ledger) (kind : ℕ) (t : DongleTag) (command k : ℕ) (closed : Bool) → verdict_of l kind t ≡ J.Fits command k closed
    → Owns l.lines l.used t.0 k
unfolding verdict_of verdict_at
fits-owns l kind t command k closed e = nobodys (eqb kind RX || (eqb kind ERR && eqb t.0 0)) (eqb t.0 0) e
  where
    at : (x j : ℕ) (d b : Bool) → cond b (J.Fits x j d) J.Unexpected ≡ J.Fits command k closed → j ≡ k
    at x j d true h = cc
    at x j d false h = absurd cc

    by : (o : Option ℕ) → owner l.lines l.used t.0 ≡ o → verdict_by l kind o ≡ J.Fits command k closed → Owns l.lines l.used t.0 k
    by None eo h = absurd cc
    by (Some j) eo h = owner-owns l.lines l.used t.0 k (eo ∙ ap (λ n. Some n) (at _ j _ (awaits (line_at l j) kind) h))

    nobodys : (b z : Bool) → cond b J.Nobody (cond z J.Unexpected (verdict_by l kind (owner l.lines l.used t.0))) ≡ J.Fits command k closed
        → Owns l.lines l.used t.0 k
    nobodys true z h = absurd cc
    nobodys false true h = absurd cc
    nobodys false false h = by (owner l.lines l.used t.0) refl h
