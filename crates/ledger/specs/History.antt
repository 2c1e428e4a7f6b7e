-- What a host can rely on: 02 §2. For every ledger: which tag and which line a command gets. For every list of calls from the new ledger: what an observer
-- knows who sees the calls and what comes back, and never the ledger.
-- Assumes nothing.
use Rattle.std.specs.Prelude.{◌≡◌, Bool, true, false, cond, ◌&&◌, ◌||◌, List, [], ◌∷◌, ◌⊎◌, ℕ, ◌+◌, ◌-◌, ◌<◌, eqb, length, get_or}
use Rattle.std.proofs.Math.Option.{Option, none, some}
use Rattle.std.specs.Int.Count.{ones}
use Rattle.status.specs.Numbers.{TYPE, LEDGER}
use Rattle.status.specs.Result.{Result as Returned, took, refused_with}
use Rattle.kind.specs.Kinds.{is_command, TX, OK, ERR, RX, TX_DONE}
use Rattle.ledger.specs.declared.Line.{Line}
use Rattle.ledger.specs.declared.Ledger.{Ledger}
use Rattle.ledger.specs.declared.Place.{Place}
use Rattle.ledger.specs.declared.Report.{Report}
use Rattle.ledger.specs.Digits.{digit}
use Rattle.ledger.specs.Lines.{line_max, no_line, wrapped}
use Rattle.ledger.specs.Calls.{new_ledger, open_answer, opened_result, open_left}
use Rattle.ledger.specs.Calls.{verdict_of, UNEXPECTED, NOBODYS, FITS, verdict_report, answer_left, connected}

-- ---- of every ledger

-- the numbers that its fields can hold, and its sixteen lines
pub record Fits (l : Ledger) : Type 0 where
  pub counter : l.counter < 0x10000
  pub used : l.used < 0x10000
  pub lines : length l.lines ≡ line_max

-- of the lines xs, of which the digits of u say whether they are open, line j is open and has the tag
pub record Owns (xs : List Line) (u tag j : ℕ) : Type 0 where
  pub inside : j < length xs
  pub opened : digit u j ≡ 1
  pub tagged : (get_or xs j no_line).tag.0 ≡ tag

abbrev pub OwnsIn : Ledger → ℕ → ℕ → Type 0
OwnsIn l tag j = Owns l.lines l.used tag j

-- the first vacant tag in cyclic order from a number on: each one before it is zero, or open
pub record NextTag (isOpen : ℕ → Type 0) (from tag : ℕ) : Type 0 where
  pub nonzero : tag ≡ 0 → ⊥
  pub vacant : isOpen tag → ⊥
  pub steps : ℕ
  pub there : tag ≡ wrapped (from + steps)
  pub passed : (m : ℕ) → m < steps → (wrapped (from + m) ≡ 0) ⊎ isOpen (wrapped (from + m))

-- the lowest free line: each one below it is open
pub record LowestLine (isOpen : ℕ → Type 0) (line : ℕ) : Type 0 where
  pub inside : line < line_max
  pub free : isOpen line → ⊥
  pub lower : (j : ℕ) → j < line → isOpen j

-- what comes back of a command, where so many are open, the next tag is looked for from a number on, and these tags and lines are open
pub record OpenRight (count from : ℕ) (TagOpen LineOpen : ℕ → Type 0) (command : ℕ) (r : Returned Place) : Type 0 where
  pub full : count ≡ line_max → r ≡ refused_with LEDGER
  pub type : (count ≡ line_max → ⊥) → is_command command ≡ false → r ≡ refused_with TYPE
  pub given : (count ≡ line_max → ⊥) → is_command command ≡ true
      → (p : Place) × (r ≡ took p) × NextTag TagOpen from p.tag.0 × LowestLine LineOpen p.line

abbrev pub TagOpen : Ledger → ℕ → Type 0
TagOpen l tag = (j : ℕ) × OwnsIn l tag j

abbrev pub LineOpen : Ledger → ℕ → Type 0
LineOpen l j = digit l.used j ≡ 1

-- the law of every ledger; and where a tag was given, the counter then stands after it
pub record OpensRight (l : Ledger) (command : ℕ) : Type 0 where
  pub right : OpenRight (ones l.used) l.counter (TagOpen l) (LineOpen l) command (opened_result (open_answer l command))
  pub stands : (p : Place) → opened_result (open_answer l command) ≡ took p → (open_left l command (open_answer l command)).counter ≡ wrapped (p.tag.0 + 1)

-- open lines have different tags
abbrev pub Distinct : Ledger → Type 0
Distinct l = (tag i j : ℕ) → OwnsIn l tag i → OwnsIn l tag j → i ≡ j

-- ---- calls, and what comes back

pub data Call : Type 0 where
  opens : ℕ → Call
  hears : ℕ → ℕ → Call
  connects : Call

pub data Reply : Type 0 where
  place : Returned Place → Reply
  report : Report → Reply
  nothing : Reply

abbrev pub leaves : Ledger → Call → Ledger
leaves l (opens command) = open_left l command (open_answer l command)
leaves l (hears kind tag) = answer_left l (verdict_of l kind (record { 0 = tag }))
leaves l connects = connected l

abbrev pub replies : Ledger → Call → Reply
replies l (opens command) = place (opened_result (open_answer l command))
replies l (hears kind tag) = report (verdict_report (verdict_of l kind (record { 0 = tag })))
replies l connects = nothing

-- ---- the observer

-- a command that is open
pub record OpenCommand : Type 0 where
  pub command : ℕ
  pub line : ℕ
  pub accepted : Bool

-- which open command has a tag, how many are open, and the number after the last tag that was given
pub record Observer : Type 0 where
  pub owner : ℕ → Option OpenCommand
  pub count : ℕ
  pub next : ℕ

abbrev pub nobody : ℕ → Option OpenCommand
nobody tag = none

abbrev pub knows_nothing : Observer
knows_nothing = record { owner = nobody; count = 0; next = 1 }

-- the same, but for one tag
abbrev pub put : ℕ → Option OpenCommand → (ℕ → Option OpenCommand) → ℕ → Option OpenCommand
put tag c others t = cond (eqb t tag) c (others t)

-- a command that was given a tag and a line
abbrev opened_by : ℕ → Option Place → Observer → Observer
opened_by command none k = k
opened_by command (some p) k =
    record {
      owner = put p.tag.0 (some record { command = command; line = p.line; accepted = false }) k.owner;
      count = k.count + 1;
      next = wrapped (p.tag.0 + 1);
    }

-- what an answer of a type does to the open command that has its tag
pub data Effect : Type 0 where
  ignored : Effect
  accepts : Effect
  closes : Effect

-- on a TX: its OK accepts it, before that an ERR closes it, and after that a TX_DONE
abbrev pub on_tx : Bool → ℕ → Effect
on_tx accepted kind =
    cond accepted (cond (eqb kind TX_DONE) closes ignored)
    (cond (eqb kind OK) accepts
    (cond (eqb kind ERR) closes ignored))

abbrev pub on_other : ℕ → Effect
on_other kind = cond (eqb kind OK || eqb kind ERR) closes ignored

abbrev pub effect : OpenCommand → ℕ → Effect
effect c kind = cond (eqb c.command TX) (on_tx c.accepted kind) (on_other kind)

abbrev pub effected : ℕ → OpenCommand → Effect → Observer → Observer
effected tag c ignored k = k
effected tag c accepts k =
    record { owner = put tag (some record { command = c.command; line = c.line; accepted = true }) k.owner; count = k.count; next = k.next }
effected tag c closes k = record { owner = put tag none k.owner; count = k.count - 1; next = k.next }

abbrev pub heard_by : ℕ → ℕ → Option OpenCommand → Observer → Observer
heard_by kind tag none k = k
heard_by kind tag (some c) k = effected tag c (effect c kind) k

-- what it knows after a call. An answer's type and tag tell it all; what the ledger reports of it is not looked at.
abbrev pub sees : Call → Reply → Observer → Observer
sees (opens command) (place r) k = opened_by command r.value k
sees (opens command) (report r) k = k
sees (opens command) nothing k = k
sees (hears kind tag) r k = heard_by kind tag (k.owner tag) k
sees connects r k = record { owner = nobody; count = 0; next = k.next }

-- ---- the law of every list of calls

-- what the ledger has to report of an answer: the command that has its tag, its line and whether that closes it, where it does something to that
abbrev pub report_of : OpenCommand → Effect → Report
report_of c ignored = record { verdict = UNEXPECTED; command = 0; line = 0; closed = 0 }
report_of c accepts = record { verdict = FITS; command = c.command; line = c.line; closed = 0 }
report_of c closes = record { verdict = FITS; command = c.command; line = c.line; closed = 1 }

abbrev pub expected : ℕ → Option OpenCommand → Report
expected kind none = record { verdict = UNEXPECTED; command = 0; line = 0; closed = 0 }
expected kind (some c) = report_of c (effect c kind)

-- an RX, and an ERR with tag zero, are nobody's
abbrev pub report_due : ℕ → ℕ → Observer → Report
report_due kind tag k =
    cond (eqb kind RX || (eqb kind ERR && eqb tag 0)) (record { verdict = NOBODYS; command = 0; line = 0; closed = 0 }) (expected kind (k.owner tag))

-- an open command has this tag; an open command has this line
abbrev pub TagKnown : Observer → ℕ → Type 0
TagKnown k tag = (c : OpenCommand) × (k.owner tag ≡ some c)

abbrev pub LineKnown : Observer → ℕ → Type 0
LineKnown k j = (tag : ℕ) × (c : OpenCommand) × (k.owner tag ≡ some c) × (c.line ≡ j)

-- what the observer foresees
abbrev pub Foreseen : Observer → Call → Reply → Type 0
Foreseen k (opens command) r = (p : Returned Place) × (r ≡ place p) × OpenRight k.count k.next (TagKnown k) (LineKnown k) command p
Foreseen k (hears kind tag) r = r ≡ report (report_due kind tag k)
Foreseen k connects r = r ≡ nothing

-- a ledger and an observer, after a list of calls
pub record Seen : Type 0 where
  pub ledger : Ledger
  pub observer : Observer

abbrev pub seen : Ledger → Observer → Seen
seen l k = record { ledger = l; observer = k }

abbrev pub called : Seen → Call → Seen
called s c = seen (leaves s.ledger c) (sees c (replies s.ledger c) s.observer)

unfoldable pub history : Seen → List Call → Seen
history s [] = s
history s (c ∷ cs) = history (called s c) cs

abbrev pub after : List Call → Seen
after cs = history (seen new_ledger knows_nothing) cs
