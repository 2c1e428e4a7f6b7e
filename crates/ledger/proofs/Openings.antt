-- Opening a command: the cases of its definition; and the law of every ledger, by the laws of the lowest clear digit and of the first vacant tag.
-- Assumes nothing.
use Rattle.std.proofs.Common.{◌≡◌, refl, sym, ap, ◌∙◌, subst, inl, inr, ℕ, ◌+◌, ◌<◌, Bool, cond, eqb, eq-eqb, ne_eqb, arith}
use Rattle.std.specs.Prelude.{Result, Ok, Err}
use Rattle.std.specs.Int.Count.{ones}
use Rattle.std.proofs.lemmas.Bool.{cases_Bool, eqb-false}
use Rattle.status.specs.Numbers.{TAKEN, TYPE, LEDGER}
use Rattle.status.specs.Result.{Result as Returned, took, value_or}
use Rattle.kind.specs.Kinds.{is_command}
use Rattle.ledger.specs.declared.Ledger.{Ledger}
use Rattle.ledger.specs.declared.Place.{Place}
use Rattle.ledger.specs.declared.OpenError.{OpenError}
use Rattle.ledger.specs.declared.OpenError.TheVariants as E
use Rattle.ledger.specs.Digits.{digit}
use Rattle.ledger.specs.Lines.{line_max, wrapped}
use Rattle.ledger.specs.Calls.{lowest_free, next_place, open_answer, opened_result, open_left}
use Rattle.ledger.specs.History.{Fits, LowestLine, OpenRight, OpensRight, TagOpen, LineOpen}
use Rattle.ledger.proofs.Digits.{not_full, lowest-right}
use Rattle.ledger.proofs.Vacancy.{first-vacant}

-- by whether all lines are open, and whether it is a command
pub answer-by : (l : Ledger) (command : ℕ) {b z : Bool} → eqb (ones l.used) line_max ≡ b → is_command command ≡ z
    → open_answer l command ≡ cond b (Err E.Full) (cond z (Ok (next_place l)) (Err E.Type))
unfolding open_answer
answer-by l command eb ez = λ i. cond (eb i) (Err E.Full) (cond (ez i) (Ok (next_place l)) (Err E.Type))

-- the line of the place that a command gets is free
pub place-free : (l : Ledger) (command : ℕ) (p : Place) → l.used < 0x10000 → open_answer l command ≡ Ok p
    → (p.line < line_max) × (digit l.used p.line ≡ 0)
place-free l command p f e = elim (cases_Bool (eqb (ones l.used) line_max)) [
  | inl b ↦ absurd (let q = sym (answer-by l command b refl) ∙ e in cc)
  | inr b ↦ (elim (cases_Bool (is_command command)) [
    | inl c ↦ (let q = sym (answer-by l command b c) ∙ e in
        let same : next_place l ≡ p = cc in
        let low = lowest-right l.used (not_full 16 l.used f (eqb-false _ _ b)) in
        subst (λ (r : Place). (r.line < line_max) × (digit l.used r.line ≡ 0)) same (low.0, low.1))
    | inr c ↦ absurd (let q = sym (answer-by l command b c) ∙ e in cc)
  ])
]

pub lowest-line : (l : Ledger) → Fits l → (ones l.used ≡ line_max → ⊥) → LowestLine (LineOpen l) (lowest_free l)
lowest-line l f room =
    let low = lowest-right l.used (not_full 16 l.used f.used room) in
    record { inside = low.0; free = λ e. omega (arith, low.1); lower = low.2 }

open-right : (l : Ledger) (command : ℕ) → Fits l
    → OpenRight (ones l.used) l.counter (TagOpen l) (LineOpen l) command (opened_result (open_answer l command))
open-right l command f =
    record {
      full = λ e. ap opened_result (answer-by l command (eq-eqb _ _ e) refl);
      type = λ room e. ap opened_result (answer-by l command (ne_eqb _ _ room) e);
      given = λ room e. (
        next_place l,
        ap opened_result (answer-by l command (ne_eqb _ _ room) e),
        first-vacant l.lines l.used l.counter f.counter f.lines,
        lowest-line l f room,
      );
    }

-- a tag comes back only with a line that was taken
stands_after : (l : Ledger) (command : ℕ) (a : Result Place OpenError) (p : Place) → opened_result a ≡ took p
    → (open_left l command a).counter ≡ wrapped (p.tag.0 + 1)
stands_after l command (Ok q) p e = ap (λ (r : Returned Place). wrapped ((value_or r.value p).tag.0 + 1)) e
stands_after l command (Err E.Full) p e = absurd (let n : LEDGER ≡ TAKEN = ap (λ (r : Returned Place). r.number) e in omega arith)
stands_after l command (Err E.Type) p e = absurd (let n : TYPE ≡ TAKEN = ap (λ (r : Returned Place). r.number) e in omega arith)

pub opens-right : (l : Ledger) (command : ℕ) → Fits l → OpensRight l command
opens-right l command f = record { right = open-right l command f; stands = stands_after l command (open_answer l command) }
