-- What each call of a ledger answers, and the ledger afterwards: 02 §2, for whatever numbers a ledger holds.
-- Assumes nothing.
use Rattle.std.specs.Prelude.{ℕ, ◌+◌, ◌-◌, ◌^◌, cond, not, ◌&&◌, ◌||◌, eqb, replicate, set, Option, Some, None, Result, Ok, Err}
use Rattle.std.specs.Int.Count.{ones}
use Rattle.status.specs.Numbers.{TYPE, LEDGER}
use Rattle.status.specs.Result.{Result as Returned, took, refused_with}
use Rattle.kind.specs.Kinds.{is_command, TX, OK, ERR, RX}
use Rattle.ledger.specs.declared.DongleTag.{DongleTag}
use Rattle.ledger.specs.declared.Line.{Line}
use Rattle.ledger.specs.declared.Ledger.{Ledger}
use Rattle.ledger.specs.declared.Report.{Report}
use Rattle.ledger.specs.declared.Place.{Place}
use Rattle.ledger.specs.declared.OpenError.{OpenError}
use Rattle.ledger.specs.declared.OpenError.TheVariants as E
use Rattle.ledger.specs.declared.Verdict.{Verdict}
use Rattle.ledger.specs.declared.Verdict.TheVariants as J
use Rattle.ledger.specs.Digits.{lowest}
use Rattle.ledger.specs.Lines.{line_max, no_line, line_at, owner, wrapped, first_vacant, candidates, awaits}

-- no line is open, and the first tag will be 1
unfoldable pub new_ledger : Ledger
new_ledger = record { counter = 1; used = 0; lines = replicate line_max no_line }

-- ---- a new command

-- the next tag, and the lowest free line
abbrev pub fresh_tag : Ledger → ℕ
fresh_tag l = first_vacant candidates l.lines l.used l.counter

abbrev pub lowest_free : Ledger → ℕ
lowest_free l = lowest line_max l.used

abbrev pub next_place : Ledger → Place
next_place l = record { tag = record { 0 = fresh_tag l }; line = lowest_free l }

-- LEDGER exactly when sixteen lines are open; then TYPE for what is none of the six commands
unfoldable pub open_answer : Ledger → ℕ → Result Place OpenError
open_answer l command =
    cond (eqb (ones l.used) line_max) (Err E.Full)
    (cond (is_command command) (Ok (next_place l))
    (Err E.Type))

-- the number of a refusal
abbrev pub open_number : OpenError → ℕ
open_number E.Full = LEDGER
open_number E.Type = TYPE

-- the number that comes back, and with it the tag and the line
abbrev pub opened_result : Result Place OpenError → Returned Place
opened_result (Ok p) = took p
opened_result (Err e) = refused_with (open_number e)

-- a line is taken: the counter stands after the tag
abbrev pub taken : Ledger → ℕ → Place → Ledger
taken l command p =
    record {
      counter = wrapped (p.tag.0 + 1);
      used = l.used + 2 ^ p.line;
      lines = set l.lines p.line (record { tag = p.tag; command = command; accepted = 0 });
    }

-- the ledger afterwards: a refusal changes nothing, the counter included
abbrev pub open_left : Ledger → ℕ → Result Place OpenError → Ledger
open_left l command (Ok p) = taken l command p
open_left l command (Err e) = l

-- ---- an answer: type and tag decide

-- an answer that has the tag of line k, which is x: OK to a TX leaves it open
unfoldable pub verdict_at : Line → ℕ → ℕ → Verdict
verdict_at x k kind = cond (awaits x kind) (J.Fits x.command k (not (eqb x.command TX) || not (eqb kind OK))) J.Unexpected

abbrev pub verdict_by : Ledger → ℕ → Option ℕ → Verdict
verdict_by l kind None = J.Unexpected
verdict_by l kind (Some k) = verdict_at (line_at l k) k kind

-- an RX answers nobody, nor does an ERR with tag zero; and zero is no tag of a command
unfoldable pub verdict_of : Ledger → ℕ → DongleTag → Verdict
verdict_of l kind t =
    cond (eqb kind RX || (eqb kind ERR && eqb t.0 0)) J.Nobody
    (cond (eqb t.0 0) J.Unexpected
    (verdict_by l kind (owner l.lines l.used t.0)))

-- the numbers of a verdict
abbrev pub UNEXPECTED : ℕ
UNEXPECTED = 0

abbrev pub NOBODYS : ℕ
NOBODYS = 1

abbrev pub FITS : ℕ
FITS = 2

abbrev pub verdict_report : Verdict → Report
verdict_report J.Unexpected = record { verdict = UNEXPECTED; command = 0; line = 0; closed = 0 }
verdict_report J.Nobody = record { verdict = NOBODYS; command = 0; line = 0; closed = 0 }
verdict_report (J.Fits command line closed) = record { verdict = FITS; command = command; line = line; closed = cond closed 1 0 }

-- line k is closed; or it is open still, and has its OK
abbrev pub freed : Ledger → ℕ → Ledger
freed l k = record { counter = l.counter; used = l.used - 2 ^ k; lines = l.lines }

abbrev accepted_line : Line → Line
accepted_line x = record { tag = x.tag; command = x.command; accepted = 1 }

abbrev pub marked : Ledger → ℕ → Ledger
marked l k = record { counter = l.counter; used = l.used; lines = set l.lines k (accepted_line (line_at l k)) }

-- the ledger afterwards: what is nobody's or unexpected changes nothing
abbrev pub answer_left : Ledger → Verdict → Ledger
answer_left l J.Unexpected = l
answer_left l J.Nobody = l
answer_left l (J.Fits command k closed) = cond closed (freed l k) (marked l k)

-- ---- a new connection: no line is open any more, and the counter stands where it was
abbrev pub connected : Ledger → Ledger
connected l = record { counter = l.counter; used = 0; lines = l.lines }
