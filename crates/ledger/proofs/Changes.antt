-- What a call changes of who owns which tag: it changes one line, and all others own what they did.
-- Assumes nothing.
use Rattle.std.proofs.Common.{◌≡◌, refl, sym, ap, ◌∙◌, subst, ℕ, ◌<◌, length}
use Rattle.std.specs.Prelude.{Option, Some, None}
use Rattle.ledger.specs.declared.Ledger.{Ledger}
use Rattle.ledger.specs.Digits.{digit}
use Rattle.ledger.specs.Lines.{line_at, owner}
use Rattle.ledger.specs.History.{OwnsIn, Distinct}
use Rattle.ledger.proofs.Owner.{owner-owns, none-owns, only-owner, no-owner}

-- the line that has the tag
abbrev pub owner_in : Ledger → ℕ → Option ℕ
owner_in l tag = owner l.lines l.used tag

-- it is the same, where the same lines own the tag
pub same-owner : (l m : Ledger) (tag : ℕ) → Distinct m → ((j : ℕ) → OwnsIn l tag j → OwnsIn m tag j)
    → ((j : ℕ) → OwnsIn m tag j → OwnsIn l tag j)
    → owner_in l tag ≡ owner_in m tag
same-owner l m tag one there back = go (owner_in l tag) refl
  where
    go : (r : Option ℕ) → owner_in l tag ≡ r → r ≡ owner_in m tag
    go None e = sym (no-owner m.lines m.used tag (λ j o. none-owns l.lines l.used tag 0 j e (back j o)))
    go (Some j) e = let o = there j (owner-owns l.lines l.used tag j e) in sym (only-owner m.lines m.used tag j o (λ i p. one tag i j p o))

-- two ledgers that differ in line k alone
pub record Beside (k : ℕ) (l m : Ledger) : Type 0 where
  pub long : length l.lines ≡ length m.lines
  pub opened : (j : ℕ) → (j ≡ k → ⊥) → digit l.used j ≡ digit m.used j
  pub lines : (j : ℕ) → (j ≡ k → ⊥) → line_at l j ≡ line_at m j

pub turned : (k : ℕ) (l m : Ledger) → Beside k l m → Beside k m l
turned k l m b = record { long = sym b.long; opened = λ j d. sym (b.opened j d); lines = λ j d. sym (b.lines j d) }

pub owns-beside : (k : ℕ) (l m : Ledger) → Beside k l m → (tag j : ℕ) → (j ≡ k → ⊥) → OwnsIn l tag j → OwnsIn m tag j
owns-beside k l m b tag j d o =
    record {
      inside = subst (λ n. j < n) b.long o.inside;
      opened = sym (b.opened j d) ∙ o.opened;
      tagged = ap (λ x. x.tag.0) (sym (b.lines j d)) ∙ o.tagged;
    }
