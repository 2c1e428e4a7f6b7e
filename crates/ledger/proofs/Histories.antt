-- Over every list of calls from the new ledger: what comes back is what an observer foresees, and no two open lines have the same tag. What the observer
-- knows is what the ledger holds (`Knows`), so the law of every ledger speaks of it.
-- Assumes nothing.
use mathlib.Core.Path.{◌≡◌, refl, sym, ap, ◌∙◌, subst}
use mathlib.Core.Bool.{Bool, true, false, cond, ◌&&◌, ◌||◌}
use mathlib.Core.List.{List, [], ◌∷◌}
use mathlib.Core.Logic.{◌⊎◌, inl, inr}
use mathlib.Core.Option.{Option, none, some, some-injective, none-ne-some}
use Rattle.std.specs.Prelude.{Option as Owner, Some, None}
use Prim.Native.Nat.{ℕ, ◌+◌, ◌<◌}
use native.Mathlib.Omega.{arith}
use lib.Dec.{eqb}
use Rattle.kind.specs.Kinds.{ERR, RX}
use Rattle.ledger.specs.declared.Ledger.{Ledger}
use Rattle.ledger.specs.declared.Verdict.TheVariants as J
use Rattle.ledger.specs.Digits.{digit}
use Rattle.ledger.specs.Lines.{line_max, line_at, wrapped}
use Rattle.ledger.specs.Calls.{new_ledger, open_answer, opened_result}
use Rattle.ledger.specs.Calls.{verdict_report, connected}
use Rattle.ledger.specs.History.{Fits, OwnsIn, NextTag, LowestLine, OpenRight, TagOpen, LineOpen, Distinct}
use Rattle.ledger.specs.History.{Call, opens, hears, connects, report, replies, OpenCommand, Observer, nobody, knows_nothing}
use Rattle.ledger.specs.History.{Effect, ignored, accepts, closes, effect, report_of, expected, TagKnown, LineKnown, Foreseen}
use Rattle.ledger.specs.History.{Seen, seen, called, history, after}
use Rattle.ledger.proofs.Changes.{owner_in}
use Rattle.ledger.proofs.Owner.{owner-owns, only-owner}
use Rattle.ledger.proofs.Openings.{opens-right}
use Rattle.ledger.proofs.Known.{command_at, known, Knows, verdict_from, verdict_known, hear-verdict, knows-opens, knows-hears, knows-none}

-- ---- what comes back is foreseen

-- what the observer knows of a tag, the ledger has in some line
known-line : (l : Ledger) (r : Owner ℕ) (c : OpenCommand) → known l r ≡ some c → (j : ℕ) × (r ≡ Some j) × (command_at l j ≡ c)
known-line l None c e = absurd (none-ne-some c e)
known-line l (Some j) c e = (j, refl, some-injective (command_at l j) c e)

module _ (l : Ledger) (k : Observer) (w : Knows l k) where
  owner-known : (tag j : ℕ) → OwnsIn l tag j → k.owner tag ≡ some (command_at l j)
  owner-known tag j o = w.owners tag ∙ ap (known l) (only-owner l.lines l.used tag j o (λ i p. w.distinct tag i j p o))

  tag-known : (tag : ℕ) → TagOpen l tag → TagKnown k tag
  tag-known tag o = (command_at l o.0, owner-known tag o.0 o.1)

  known-tag : (tag : ℕ) → TagKnown k tag → TagOpen l tag
  known-tag tag c =
      let n = known-line l (owner_in l tag) c.0 (sym (w.owners tag) ∙ c.1) in
      (n.0, owner-owns l.lines l.used tag n.0 n.1)

  line_known : (j : ℕ) → j < line_max → LineOpen l j → LineKnown k j
  line_known j h e =
      let inside = subst (λ (n : ℕ). j < n) (sym w.fits.lines) h in
      let o : OwnsIn l (line_at l j).tag.0 j = record { inside = inside; opened = e; tagged = refl } in
      ((line_at l j).tag.0, command_at l j, owner-known (line_at l j).tag.0 j o, refl)

  known-open : (j : ℕ) → LineKnown k j → LineOpen l j
  known-open j c =
      let n = known-line l (owner_in l c.0) c.1 (sym (w.owners c.0) ∙ c.2) in
      let o = owner-owns l.lines l.used c.0 n.0 n.1 in
      ap (digit l.used) (sym c.3 ∙ sym (ap (λ (d : OpenCommand). d.line) n.2)) ∙ o.opened

  next_known : (tag : ℕ) → NextTag (TagOpen l) l.counter tag → NextTag (TagKnown k) k.next tag
  next_known tag n =
      record {
        nonzero = n.nonzero;
        vacant = λ c. n.vacant (known-tag tag c);
        steps = n.steps;
        there = n.there ∙ ap (λ (x : ℕ). wrapped (x + n.steps)) (sym w.next);
        passed = λ m h. subst (blocked m) (sym w.next) (either (wrapped (l.counter + m)) (n.passed m h));
      }
    where
      blocked : ℕ → ℕ → Type 0
      blocked m x = (wrapped (x + m) ≡ 0) ⊎ TagKnown k (wrapped (x + m))

      either : (t : ℕ) → (t ≡ 0) ⊎ TagOpen l t → (t ≡ 0) ⊎ TagKnown k t
      either t (inl z) = inl z
      either t (inr o) = inr (tag-known t o)

  lowest-known : (line : ℕ) → LowestLine (LineOpen l) line → LowestLine (LineKnown k) line
  lowest-known line n =
      record { inside = n.inside; free = λ c. n.free (known-open line c); lower = λ j h. line_known j (let i = n.inside in omega arith) (n.lower j h) }

  open-foreseen : (command : ℕ) → OpenRight k.count k.next (TagKnown k) (LineKnown k) command (opened_result (open_answer l command))
  open-foreseen command =
      let r = (opens-right l command w.fits).right in
      record {
        full = λ e. r.full (sym w.count ∙ e);
        type = λ room e. r.type (λ n. room (w.count ∙ n)) e;
        given = λ room e. (let g = r.given (λ n. room (w.count ∙ n)) e in (g.0, g.1, next_known g.0.tag.0 g.2, lowest-known g.0.line g.3));
      }

  report-from : (c : OpenCommand) (f : Effect) → verdict_report (verdict_from c f) ≡ report_of c f
  report-from c ignored = refl
  report-from c accepts = refl
  report-from c closes = refl

  report-known : (kind : ℕ) (b : Bool) (r : Option OpenCommand)
      → verdict_report (cond b J.Nobody (verdict_known kind r)) ≡ cond b (record { verdict = 1; command = 0; line = 0; closed = 0 }) (expected kind r)
  report-known kind true r = refl
  report-known kind false none = refl
  report-known kind false (some c) = report-from c (effect c kind)

  foreseen : (c : Call) → Foreseen k c (replies l c)
  foreseen (opens command) = (opened_result (open_answer l command), refl, open-foreseen command)
  foreseen (hears kind tag) =
      let nobodys = eqb kind RX || (eqb kind ERR && eqb tag 0) in
      ap report (ap verdict_report (hear-verdict l k kind tag w refl) ∙ report-known kind nobodys (k.owner tag))
  foreseen connects = refl

-- ---- over every list of calls

new-fits : Fits new_ledger
unfolding new_ledger
new-fits = record { counter = omega arith; used = omega arith; lines = refl }

knows-new : Knows new_ledger knows_nothing
unfolding new_ledger
knows-new = knows-none new_ledger new-fits refl

knows-called : (s : Seen) (c : Call) → Knows s.ledger s.observer → Knows (called s c).ledger (called s c).observer
knows-called s (opens command) w = knows-opens s.ledger s.observer command w
knows-called s (hears kind tag) w = knows-hears s.ledger s.observer kind tag w
knows-called s connects w =
    subst (λ (n : ℕ). Knows (connected s.ledger) (record { owner = nobody; count = 0; next = n })) (sym w.next)
    (knows-none (connected s.ledger) (record { counter = w.fits.counter; used = omega arith; lines = w.fits.lines }) refl)

knows-history : (cs : List Call) (s : Seen) → Knows s.ledger s.observer → Knows (history s cs).ledger (history s cs).observer
unfolding history
knows-history [] s w = w
knows-history (c ∷ cs) s w = knows-history cs (called s c) (knows-called s c w)

knows_after : (cs : List Call) → Knows (after cs).ledger (after cs).observer
knows_after cs = knows-history cs (seen new_ledger knows_nothing) knows-new

-- no two open lines ever have the same tag
pub distinct-tags : (cs : List Call) → Distinct (after cs).ledger
distinct-tags cs = (knows_after cs).distinct

-- whatever the calls were, what comes back of the next one is what an observer foresees who saw them
pub all-foreseen : (cs : List Call) (c : Call) → Foreseen (after cs).observer c (replies (after cs).ledger c)
all-foreseen cs c = foreseen (after cs).ledger (after cs).observer (knows_after cs) c
