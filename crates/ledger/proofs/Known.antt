-- What an observer knows is what the ledger holds: the invariant `Knows`. Each call keeps it, by what it changes of who owns which tag.
-- Assumes nothing.
use mathlib.Core.Path.{◌≡◌, refl, sym, ap, ◌∙◌, subst}
use mathlib.Core.Bool.{Bool, true, false, cond, not, ◌&&◌, ◌||◌, true≢false, and-false}
use mathlib.Core.Logic.{inl, inr}
use mathlib.Core.Option.{Option, none, some}
use Rattle.std.specs.Prelude.{Option as Owner, Some, None, Result, Ok}
use Rattle.std.proofs.lemmas.Bool.{cases_Bool, cases_eq}
use Prim.Native.Nat.{ℕ, ◌+◌, ◌-◌, ◌<◌}
use native.Mathlib.Omega.{arith}
use lib.Count.{ones, ones-ones}
use lib.Dec.{eqb}
use lib.ListN.{length, length-set}
use lib.Seq.{get_or-set_same, get_or-set_other}
use borrow.Author.Tests.{eqb-true, eqb-false}
use Rattle.kind.specs.Kinds.{TX, OK, ERR, RX, TX_DONE, is_command}
use Rattle.ledger.specs.declared.Line.{Line}
use Rattle.ledger.specs.declared.Ledger.{Ledger}
use Rattle.ledger.specs.declared.Place.{Place}
use Rattle.ledger.specs.declared.OpenError.{OpenError}
use Rattle.ledger.specs.declared.Verdict.{Verdict}
use Rattle.ledger.specs.declared.Verdict.TheVariants as J
use Rattle.ledger.specs.Digits.{digit}
use Rattle.ledger.specs.Lines.{line_max, no_line, wrapped, line_at, accepted, awaits}
use Rattle.ledger.specs.Calls.{fresh_tag, lowest_free, next_place, opened_result, open_left, taken}
use Rattle.ledger.specs.Calls.{verdict_at, verdict_by, verdict_of, freed, marked, answer_left}
use Rattle.ledger.specs.History.{Fits, OwnsIn, NextTag, LowestLine, TagOpen, LineOpen, Distinct}
use Rattle.ledger.specs.History.{opens, hears, place, leaves, replies, OpenCommand, Observer, nobody, put}
use Rattle.ledger.specs.History.{Effect, ignored, accepts, closes, on_tx, effect, effected, heard_by, sees}
use Rattle.ledger.proofs.Changes.{owner_in, same-owner, Beside, turned, owns-beside}
use Rattle.ledger.proofs.Digits.{not-one, set_same, set_other, clear-same, clear-other, digit-of-zero, set-ones, set-lt, clear-ones}
use Rattle.ledger.proofs.Owner.{owner-owns, only-owner, no-owner}
use Rattle.ledger.proofs.Vacancy.{first-vacant}
use Rattle.ledger.proofs.Verdicts.{verdict-by}
use Rattle.ledger.proofs.Openings.{answer-by, lowest-line}

-- ---- the invariant

abbrev pub command_at : Ledger → ℕ → OpenCommand
command_at l j = record { command = (line_at l j).command; line = j; accepted = accepted (line_at l j) }

abbrev pub known : Ledger → Owner ℕ → Option OpenCommand
known l None = none
known l (Some j) = some (command_at l j)

pub record Knows (l : Ledger) (k : Observer) : Type 0 where
  pub fits : Fits l
  pub distinct : Distinct l
  pub nonzero : (j : ℕ) → OwnsIn l 0 j → ⊥
  pub owners : (tag : ℕ) → k.owner tag ≡ known l (owner_in l tag)
  pub count : k.count ≡ ones l.used
  pub next : k.next ≡ l.counter

-- what the observer knows of a line, and of one that did not change
abbrev of_line : ℕ → Line → Option OpenCommand
of_line j x = some record { command = x.command; line = j; accepted = accepted x }

-- A call that changes one line keeps the invariant: where the line is open, before or after, it has the tag, no other line has that, and c is what is then
-- known of it.
module _ (l m : Ledger) (k : Observer) (tag line : ℕ) (c : Option OpenCommand) (w : Knows l k) (b : Beside line l m) (nonzero : tag ≡ 0 → ⊥)
    (was : (t : ℕ) → OwnsIn l t line → t ≡ tag) (sole : (j : ℕ) → OwnsIn l tag j → j ≡ line) (now : (t : ℕ) → OwnsIn m t line → t ≡ tag) where
  back : (t j : ℕ) → (j ≡ line → ⊥) → OwnsIn m t j → OwnsIn l t j
  back = owns-beside line m l (turned line l m b)

  -- a tag of the line, and of another
  alone : (t j : ℕ) → OwnsIn m t line → OwnsIn m t j → j ≡ line
  alone t j o p = elim (cases_eq j line) [ inl e ↦ e | inr d ↦ sole j (subst (λ s. OwnsIn l s j) (now t o) (back t j d p)) ]

  beside-distinct : Distinct m
  beside-distinct t i j p q = elim (cases_eq i line) [
    | inl e ↦ e ∙ sym (alone t j (subst (OwnsIn m t) e p) q)
    | inr d ↦ (elim (cases_eq j line) [
      | inl e ↦ absurd (d (alone t i (subst (OwnsIn m t) e q) p))
      | inr f ↦ w.distinct t i j (back t i d p) (back t j f q)
    ])
  ]

  owners-beside : c ≡ known m (owner_in m tag) → (t : ℕ) → put tag c k.owner t ≡ known m (owner_in m t)
  owners-beside e t = elim (cases_Bool (eqb t tag)) [
    | inl y ↦ ap (λ z. cond z c (k.owner t)) y ∙ e ∙ ap (λ s. known m (owner_in m s)) (sym (eqb-true t tag y))
    | inr n ↦ (let other = eqb-false t tag n in
        ap (λ z. cond z c (k.owner t)) n ∙ w.owners t ∙ stays (owner_in l t) refl other
        ∙ ap (known m) (same-owner l m t beside-distinct (λ j o. owns-beside line l m b t j (not_line t j other o) o)
        (λ j o. back t j (λ q. other (now t (subst (OwnsIn m t) q o))) o)))
  ]
    where
      not_line : (t j : ℕ) → (t ≡ tag → ⊥) → OwnsIn l t j → j ≡ line → ⊥
      not_line t j other o q = other (was t (subst (OwnsIn l t) q o))

      stays : (r : Owner ℕ) → owner_in l t ≡ r → (t ≡ tag → ⊥) → known l r ≡ known m r
      stays None q other = refl
      stays (Some j) q other = ap (of_line j) (b.lines j (not_line t j other (owner-owns l.lines l.used t j q)))

  knows-beside : (count next : ℕ) → Fits m → count ≡ ones m.used → next ≡ m.counter → c ≡ known m (owner_in m tag)
      → Knows m (record { owner = put tag c k.owner; count = count; next = next })
  knows-beside count next fits counts nexts e =
      record {
        fits = fits;
        distinct = beside-distinct;
        nonzero = λ j o. (elim (cases_eq j line) [ inl q ↦ nonzero (sym (now 0 (subst (OwnsIn m 0) q o))) | inr d ↦ w.nonzero j (back 0 j d o) ]);
        owners = owners-beside e;
        count = counts;
        next = nexts;
      }

  -- what is known of the tag, where the line is open
  known-line_of : OwnsIn m tag line → known m (owner_in m tag) ≡ of_line line (line_at m line)
  known-line_of o = ap (known m) (only-owner m.lines m.used tag line o (λ i p. beside-distinct tag i line p o))

-- ---- a command

-- one that takes a line
knows-taken : (l : Ledger) (k : Observer) (command : ℕ) → Knows l k → (ones l.used ≡ line_max → ⊥)
    → Knows (taken l command (next_place l)) (sees (opens command) (place (opened_result (Ok (next_place l)))) k)
knows-taken l k command w room =
    knows-beside l m k tag line mine w beside next.nonzero was sole now (k.count + 1) (wrapped (tag + 1))
    (record { counter = omega arith; used = set-lt 16 line l.used low.inside w.fits.used clear; lines = length-set l.lines line taken_line ∙ w.fits.lines })
    (omega (arith, w.count, set-ones line l.used clear)) refl
    (ap (λ z. some record { command = command; line = line; accepted = z }) (sym (and-false (eqb command TX)))
    ∙ ap (of_line line) (sym at_line) ∙ sym (known-line_of l m k tag line mine w beside next.nonzero was sole now mine_owns))
  where
    tag : ℕ
    tag = fresh_tag l

    line : ℕ
    line = lowest_free l

    m : Ledger
    m = taken l command (next_place l)

    taken_line : Line
    taken_line = record { tag = record { 0 = tag }; command = command; accepted = 0 }

    mine : Option OpenCommand
    mine = some record { command = command; line = line; accepted = false }

    low : LowestLine (LineOpen l) line
    low = lowest-line l w.fits room

    next : NextTag (TagOpen l) l.counter tag
    next = first-vacant l.lines l.used l.counter w.fits.counter w.fits.lines

    inside : line < length l.lines
    inside = subst (λ n. line < n) (sym w.fits.lines) low.inside

    clear : digit l.used line ≡ 0
    clear = not-one l.used line low.free

    at_line : line_at m line ≡ taken_line
    at_line = get_or-set_same l.lines line taken_line no_line inside

    beside : Beside line l m
    beside =
        record {
          long = sym (length-set l.lines line taken_line);
          opened = λ j d. sym (set_other line j l.used d clear);
          lines = λ j d. sym (get_or-set_other l.lines line j taken_line no_line d);
        }

    was : (t : ℕ) → OwnsIn l t line → t ≡ tag
    was t o = absurd (low.free o.opened)

    sole : (j : ℕ) → OwnsIn l tag j → j ≡ line
    sole j o = absurd (next.vacant (j, o))

    now : (t : ℕ) → OwnsIn m t line → t ≡ tag
    now t o = sym o.tagged ∙ ap (λ x. x.tag.0) at_line

    mine_owns : OwnsIn m tag line
    mine_owns =
        record {
          inside = subst (λ n. line < n) (sym (length-set l.lines line taken_line)) inside;
          opened = set_same line l.used clear;
          tagged = ap (λ x. x.tag.0) at_line;
        }

-- whatever a command is answered
pub knows-opens : (l : Ledger) (k : Observer) (command : ℕ) → Knows l k
    → Knows (leaves l (opens command)) (sees (opens command) (replies l (opens command)) k)
knows-opens l k command w = elim (cases_Bool (eqb (ones l.used) line_max)) [
  | inl b ↦ subst after-answer (sym (answer-by l command b refl)) w
  | inr b ↦ (elim (cases_Bool (is_command command)) [
    | inl c ↦ subst after-answer (sym (answer-by l command b c)) (knows-taken l k command w (eqb-false _ _ b))
    | inr c ↦ subst after-answer (sym (answer-by l command b c)) w
  ])
]
  where
    after-answer : Result Place OpenError → Type 0
    after-answer a = Knows (open_left l command a) (sees (opens command) (place (opened_result a)) k)

-- ---- an answer

-- the ledger's verdict on a command with its tag is what the observer says of it
abbrev pub verdict_from : OpenCommand → Effect → Verdict
verdict_from c ignored = J.Unexpected
verdict_from c accepts = J.Fits c.command c.line false
verdict_from c closes = J.Fits c.command c.line true

effect-verdict : (x : Line) (j kind : ℕ) (c : OpenCommand) → c ≡ record { command = x.command; line = j; accepted = accepted x }
    → verdict_at x j kind ≡ verdict_from c (effect c kind)
unfolding verdict_at awaits
effect-verdict x j kind c e =
    cases (eqb x.command TX) (eqb x.accepted 1) (eqb kind OK) (eqb kind ERR) (eqb kind TX_DONE)
    (λ q. ap (λ (n : ℕ). eqb n OK) (eqb-true kind TX_DONE q))
    ∙ ap (λ (d : OpenCommand). verdict_from d (effect d kind)) (sym e)
  where
    d : OpenCommand
    d = record { command = x.command; line = j; accepted = accepted x }

    cases : (tx acc ok err done : Bool) → (done ≡ true → ok ≡ false)
        → cond (cond (tx && acc) done (ok || err)) (J.Fits x.command j (not tx || not ok)) J.Unexpected
        ≡ verdict_from d (cond tx (cond (tx && acc) (cond done closes ignored) (cond ok accepts (cond err closes ignored))) (cond (ok || err) closes ignored))
    cases false acc true err done q = refl
    cases false acc false true done q = refl
    cases false acc false false done q = refl
    cases true false true err done q = refl
    cases true false false true done q = refl
    cases true false false false done q = refl
    cases true true ok err false q = refl
    cases true true false err true q = refl
    cases true true true err true q = absurd (true≢false (q refl))

abbrev pub verdict_known : ℕ → Option OpenCommand → Verdict
verdict_known kind none = J.Unexpected
verdict_known kind (some c) = verdict_from c (effect c kind)

owner-verdict : (l : Ledger) (kind : ℕ) (r : Owner ℕ) → verdict_by l kind r ≡ verdict_known kind (known l r)
owner-verdict l kind None = refl
owner-verdict l kind (Some j) = effect-verdict (line_at l j) j kind (command_at l j) refl

-- no open line has tag zero, so the observer needs no rule for it
zero-owner : (l : Ledger) (k : Observer) → Knows l k → k.owner 0 ≡ none
zero-owner l k w = w.owners 0 ∙ ap (known l) (no-owner l.lines l.used 0 w.nonzero)

pub hear-verdict : (l : Ledger) (k : Observer) (kind tag : ℕ) {b : Bool} → Knows l k → (eqb kind RX || (eqb kind ERR && eqb tag 0)) ≡ b
    → verdict_of l kind (record { 0 = tag }) ≡ cond b J.Nobody (verdict_known kind (k.owner tag))
hear-verdict l k kind tag {b} w e = elim (cases_Bool (eqb tag 0)) [
  | inl z ↦ verdict-by l kind (record { 0 = tag }) e z
      ∙ ap (λ (r : Option OpenCommand). cond b J.Nobody (verdict_known kind r)) (sym (ap k.owner (eqb-true tag 0 z) ∙ zero-owner l k w))
  | inr z ↦ verdict-by l kind (record { 0 = tag }) e z
      ∙ ap (cond b J.Nobody) (owner-verdict l kind (owner_in l tag) ∙ ap (verdict_known kind) (sym (w.owners tag)))
]

-- what is nobody's does nothing to what is open: no command waits for an RX, and none has tag zero
rx-ignored : (c : OpenCommand) → effect c RX ≡ ignored
rx-ignored c = cases (eqb c.command TX) c.accepted
  where
    cases : (tx acc : Bool) → cond tx (cond acc ignored ignored) ignored ≡ ignored
    cases false acc = refl
    cases true false = refl
    cases true true = refl

rx-heard : (tag : ℕ) (k : Observer) (r : Option OpenCommand) → heard_by RX tag r k ≡ k
rx-heard tag k none = refl
rx-heard tag k (some c) = ap (λ (f : Effect). effected tag c f k) (rx-ignored c)

nobodys-heard : (l : Ledger) (k : Observer) (kind tag : ℕ) → Knows l k → (eqb kind RX || (eqb kind ERR && eqb tag 0)) ≡ true
    → heard_by kind tag (k.owner tag) k ≡ k
nobodys-heard l k kind tag w e = elim (cases_Bool (eqb kind RX)) [
  | inl b ↦ ap (λ (n : ℕ). heard_by n tag (k.owner tag) k) (eqb-true kind RX b) ∙ rx-heard tag k (k.owner tag)
  | inr b ↦ (let z = zero (eqb kind RX) (eqb kind ERR) (eqb tag 0) refl b e in
      ap (λ (r : Option OpenCommand). heard_by kind tag r k) (ap k.owner z ∙ zero-owner l k w))
]
  where
    zero : (rx err z : Bool) → eqb tag 0 ≡ z → rx ≡ false → (rx || (err && z)) ≡ true → tag ≡ 0
    zero true err z q f h = absurd (true≢false f)
    zero false true true q f h = eqb-true tag 0 q
    zero false true false q f h = absurd (true≢false (sym h))
    zero false false z q f h = absurd (true≢false (sym h))

-- an answer that closes the command of line j
knows-freed : (l : Ledger) (k : Observer) (tag j : ℕ) → Knows l k → OwnsIn l tag j → Knows (freed l j) (effected tag (command_at l j) closes k)
knows-freed l k tag j w o =
    knows-beside l m k tag j none w beside (λ z. w.nonzero j (subst (λ t. OwnsIn l t j) z o)) (λ t p. sym p.tagged ∙ o.tagged) (λ i p. w.distinct tag i j p o)
    (λ t p. absurd (closed t p)) (k.count - 1) k.next
    (record { counter = w.fits.counter; used = omega (arith, w.fits.used); lines = w.fits.lines })
    (omega (arith, w.count, clear-ones j l.used o.opened)) w.next
    (ap (known m) (sym (no-owner m.lines m.used tag gone)))
  where
    m : Ledger
    m = freed l j

    beside : Beside j l m
    beside = record { long = refl; opened = λ i d. sym (clear-other j i l.used d o.opened); lines = λ i d. refl }

    closed : (t : ℕ) → OwnsIn m t j → ⊥
    closed t p = let q = p.opened in omega (arith, clear-same j l.used o.opened)

    gone : (i : ℕ) → OwnsIn m tag i → ⊥
    gone i p = elim (cases_eq i j) [
      | inl e ↦ closed tag (subst (OwnsIn m tag) e p)
      | inr d ↦ d (w.distinct tag i j (owns-beside j m l (turned j l m beside) tag i d p) o)
    ]

-- an OK that leaves the TX of line j open
knows-marked : (l : Ledger) (k : Observer) (tag j : ℕ) → Knows l k → OwnsIn l tag j → eqb (line_at l j).command TX ≡ true
    → Knows (marked l j) (effected tag (command_at l j) accepts k)
knows-marked l k tag j w o tx =
    knows-beside l m k tag j (of_tx true) w beside nonzero was sole now k.count k.next
    (record { counter = w.fits.counter; used = w.fits.used; lines = length-set l.lines j marked_line ∙ w.fits.lines })
    w.count w.next
    (ap (λ z. of_tx (z && true)) (sym tx) ∙ ap (of_line j) (sym at_line)
    ∙ sym (known-line_of l m k tag j (of_tx true) w beside nonzero was sole now mine_owns))
  where
    m : Ledger
    m = marked l j

    marked_line : Line
    marked_line = record { tag = (line_at l j).tag; command = (line_at l j).command; accepted = 1 }

    of_tx : Bool → Option OpenCommand
    of_tx z = some record { command = (line_at l j).command; line = j; accepted = z }

    at_line : line_at m j ≡ marked_line
    at_line = get_or-set_same l.lines j marked_line no_line o.inside

    beside : Beside j l m
    beside =
        record {
          long = sym (length-set l.lines j marked_line);
          opened = λ i d. refl;
          lines = λ i d. sym (get_or-set_other l.lines j i marked_line no_line d);
        }

    nonzero : tag ≡ 0 → ⊥
    nonzero z = w.nonzero j (subst (λ t. OwnsIn l t j) z o)

    was : (t : ℕ) → OwnsIn l t j → t ≡ tag
    was t p = sym p.tagged ∙ o.tagged

    sole : (i : ℕ) → OwnsIn l tag i → i ≡ j
    sole i p = w.distinct tag i j p o

    now : (t : ℕ) → OwnsIn m t j → t ≡ tag
    now t p = sym p.tagged ∙ ap (λ x. x.tag.0) at_line ∙ o.tagged

    mine_owns : OwnsIn m tag j
    mine_owns =
        record {
          inside = subst (λ n. j < n) (sym (length-set l.lines j marked_line)) o.inside;
          opened = o.opened;
          tagged = ap (λ x. x.tag.0) at_line ∙ o.tagged;
        }

-- whatever it does
accepts-tx : (c : OpenCommand) (kind : ℕ) → effect c kind ≡ accepts → eqb c.command TX ≡ true
accepts-tx c kind e = cases (eqb c.command TX) (eqb kind OK || eqb kind ERR) e
  where
    is-accepts : Effect → Bool
    is-accepts ignored = false
    is-accepts accepts = true
    is-accepts closes = false

    none-does : (b : Bool) → is-accepts (cond b closes ignored) ≡ false
    none-does true = refl
    none-does false = refl

    cases : (tx b : Bool) → cond tx (on_tx c.accepted kind) (cond b closes ignored) ≡ accepts → tx ≡ true
    cases true b h = refl
    cases false b h = absurd (true≢false (sym (ap is-accepts h) ∙ none-does b))

knows-heard : (l : Ledger) (k : Observer) (kind tag : ℕ) → Knows l k
    → Knows (answer_left l (verdict_known kind (k.owner tag))) (heard_by kind tag (k.owner tag) k)
knows-heard l k kind tag w = subst heard (sym (w.owners tag)) (by (owner_in l tag) refl)
  where
    heard : Option OpenCommand → Type 0
    heard r = Knows (answer_left l (verdict_known kind r)) (heard_by kind tag r k)

    on : (j : ℕ) → OwnsIn l tag j → (f : Effect) → effect (command_at l j) kind ≡ f
        → Knows (answer_left l (verdict_from (command_at l j) f)) (effected tag (command_at l j) f k)
    on j o ignored e = w
    on j o accepts e = knows-marked l k tag j w o (accepts-tx (command_at l j) kind e)
    on j o closes e = knows-freed l k tag j w o

    by : (r : Owner ℕ) → owner_in l tag ≡ r → heard (known l r)
    by None e = w
    by (Some j) e = on j (owner-owns l.lines l.used tag j e) (effect (command_at l j) kind) refl

pub knows-hears : (l : Ledger) (k : Observer) (kind tag : ℕ) → Knows l k
    → Knows (leaves l (hears kind tag)) (sees (hears kind tag) (replies l (hears kind tag)) k)
knows-hears l k kind tag w = elim (cases_Bool (eqb kind RX || (eqb kind ERR && eqb tag 0))) [
  | inl b ↦ subst heard (sym (hear-verdict l k kind tag w b)) (subst (Knows l) (sym (nobodys-heard l k kind tag w b)) w)
  | inr b ↦ subst heard (sym (hear-verdict l k kind tag w b)) (knows-heard l k kind tag w)
]
  where
    heard : Verdict → Type 0
    heard v = Knows (answer_left l v) (heard_by kind tag (k.owner tag) k)

-- ---- no line is open: at the start, and after a new connection

pub knows-none : (l : Ledger) → Fits l → l.used ≡ 0 → Knows l (record { owner = nobody; count = 0; next = l.counter })
knows-none l f e =
    record {
      fits = f;
      distinct = λ tag i j p q. absurd (closed tag i p);
      nonzero = closed 0;
      owners = λ tag. ap (known l) (sym (no-owner l.lines l.used tag (closed tag)));
      count = sym (ap ones e ∙ ones-ones 0);
      next = refl;
    }
  where
    closed : (tag j : ℕ) → OwnsIn l tag j → ⊥
    closed tag j o = let p = o.opened in let q = ap (λ (u : ℕ). digit u j) e ∙ digit-of-zero j in omega arith
