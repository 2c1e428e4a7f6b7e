-- The calls from C have the laws of the ledger: each leaves what the call of the ledger leaves, and gives what that gives.
-- Assumes nothing.
use mathlib.Core.Path.{◌≡◌, refl, sym, ap, ◌∙◌, subst}
use mathlib.Core.List.{List, [], ◌∷◌}
use Prim.Native.Nat.{ℕ}
use Rattle.status.specs.Result.{Result as Returned}
use Rattle.ledger.specs.declared.Ledger.{Ledger}
use Rattle.ledger.specs.declared.Place.{Place}
use Rattle.ledger.specs.declared.Report.{Report}
use Rattle.ledger.specs.Calls.{new_ledger, open_answer, opened_result}
use Rattle.ledger.specs.History.{opens, hears, Reply, place, report, nothing, leaves, Observer, knows_nothing, OpenRight, TagKnown, LineKnown, report_due}
use Rattle.ledger.specs.History.{Distinct, seen, called, history, after}
use Rattle.ledger.proofs.Histories.{distinct-tags, all-foreseen}
use Rattle.ffi_ledger.specs.Calls.{open_call, answer_call}
use Rattle.ffi_ledger.specs.Foreseen.{CCall, c_open, c_answer, c_connect, left_by, called_by, as_call, as_calls, knows, Placed, ForeseenInC}

same_left : (l : Ledger) (c : CCall) → left_by l c ≡ leaves l (as_call c)
unfolding open_call answer_call
same_left l (c_open command tag line) = refl
same_left l (c_answer kind tag) = refl
same_left l c_connect = refl

same-ledger : (cs : List CCall) (l : Ledger) (k : Observer) → called_by l cs ≡ (history (seen l k) (as_calls cs)).ledger
unfolding called_by as_calls history
same-ledger [] l k = refl
same-ledger (c ∷ cs) l k =
    ap (λ (m : Ledger). called_by m cs) (same_left l c) ∙ same-ledger cs (called (seen l k) (as_call c)).ledger (called (seen l k) (as_call c)).observer

same_after : (cs : List CCall) → called_by new_ledger cs ≡ (after (as_calls cs)).ledger
same_after cs = same-ledger cs new_ledger knows_nothing

-- what a reply holds
abbrev place_of : Reply → Returned Place → Returned Place
place_of (place r) other = r
place_of (report r) other = other
place_of nothing other = other

abbrev report_of : Reply → Report → Report
report_of (place r) other = other
report_of (report r) other = r
report_of nothing other = other

pub foreseen-in-c : (cs : List CCall) → ForeseenInC cs
unfolding open_call answer_call
foreseen-in-c cs =
    record {
      distinct = subst Distinct (sym (same_after cs)) (distinct-tags (as_calls cs));
      placed = λ command tag line. subst (Placed (knows cs) command tag line) (sym (same_after cs)) (placed command tag line);
      reported = λ kind tag. ap (λ (l : Ledger). (answer_call l kind tag).report) (same_after cs) ∙ told kind tag;
    }
  where
    l : Ledger
    l = (after (as_calls cs)).ledger

    placed : (command tag line : ℕ) → Placed (knows cs) command tag line l
    placed command tag line =
        let f = all-foreseen (as_calls cs) (opens command) in
        let e : opened_result (open_answer l command) ≡ f.0 = ap (λ (r : Reply). place_of r f.0) f.1 in
        record {
          result = opened_result (open_answer l command);
          right = subst (OpenRight (knows cs).count (knows cs).next (TagKnown (knows cs)) (LineKnown (knows cs)) command) (sym e) f.2;
          number = refl;
          given = refl;
          place = refl;
        }

    told : (kind tag : ℕ) → (answer_call l kind tag).report ≡ report_due kind tag (knows cs)
    told kind tag = ap (λ (r : Reply). report_of r (answer_call l kind tag).report) (all-foreseen (as_calls cs) (hears kind tag))
