-- What a C program can rely on: 02 §2, over every list of calls of `donglora_ledger_open`, `donglora_ledger_answer` and `donglora_ledger_connect`, each lent
-- what the last one left, from what `donglora_ledger_new` writes. Their contracts cite `open_call`, `answer_call`, `connected` and `new_ledger`.
-- Assumes nothing.
use Rattle.std.specs.Prelude.{◌≡◌, List, [], ◌∷◌, ℕ}
use Rattle.status.specs.Result.{Result as Returned, value_or}
use Rattle.ledger.specs.declared.Ledger.{Ledger}
use Rattle.ledger.specs.declared.Place.{Place}
use Rattle.ledger.specs.Calls.{new_ledger, connected}
use Rattle.ledger.specs.History.{Call, opens, hears, connects, Observer, OpenRight, TagKnown, LineKnown, report_due, Distinct, after}
use Rattle.ffi_ledger.specs.Calls.{open_call, answer_call}

-- a call from C: of a command also what stood in the caller's tag and line
pub data CCall : Type 0 where
  c_open : ℕ → ℕ → ℕ → CCall
  c_answer : ℕ → ℕ → CCall
  c_connect : CCall

-- the ledger that it leaves
abbrev pub left_by : Ledger → CCall → Ledger
left_by l (c_open command tag line) = (open_call l command tag line).ledger
left_by l (c_answer kind tag) = (answer_call l kind tag).ledger
left_by l c_connect = connected l

unfoldable pub called_by : Ledger → List CCall → Ledger
called_by l [] = l
called_by l (c ∷ cs) = called_by (left_by l c) cs

-- what an observer sees of it
abbrev pub as_call : CCall → Call
as_call (c_open command tag line) = opens command
as_call (c_answer kind tag) = hears kind tag
as_call c_connect = connects

unfoldable pub as_calls : List CCall → List Call
as_calls [] = []
as_calls (c ∷ cs) = as_call c ∷ as_calls cs

abbrev pub knows : List CCall → Observer
knows cs = (after (as_calls cs)).observer

-- what a command brings: its number, and the tag and the line or what stood there; as foreseen
pub record Placed (k : Observer) (command tag line : ℕ) (l : Ledger) : Type 0 where
  pub result : Returned Place
  pub right : OpenRight k.count k.next (TagKnown k) (LineKnown k) command result
  pub number : (open_call l command tag line).number ≡ result.number
  pub given : (open_call l command tag line).tag ≡ (value_or result.value (record { tag = record { 0 = tag }; line = line })).tag.0
  pub place : (open_call l command tag line).line ≡ (value_or result.value (record { tag = record { 0 = tag }; line = line })).line

-- after every list of calls
pub record ForeseenInC (cs : List CCall) : Type 0 where
  pub distinct : Distinct (called_by new_ledger cs)
  pub placed : (command tag line : ℕ) → Placed (knows cs) command tag line (called_by new_ledger cs)
  pub reported : (kind tag : ℕ) → (answer_call (called_by new_ledger cs) kind tag).report ≡ report_due kind tag (knows cs)
