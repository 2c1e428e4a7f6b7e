-- What C gets of a call of the ledger: the number or the report, and what stands in the memory that it lent.
-- Assumes nothing.
use Rattle.std.specs.Prelude.{ℕ}
use Rattle.status.specs.Result.{value_or}
use Rattle.ledger.specs.declared.Ledger.{Ledger}
use Rattle.ledger.specs.declared.Place.{Place}
use Rattle.ledger.specs.Calls.{open_answer, opened_result, open_left, verdict_of, verdict_report, answer_left}
use Rattle.ffi_ledger.specs.declared.OpenCall.{OpenCall}
use Rattle.ffi_ledger.specs.declared.AnswerCall.{AnswerCall}

-- the tag and the line that a command has, or what stood there
abbrev place_or : Ledger → ℕ → ℕ → ℕ → Place
place_or l command tag line = value_or (opened_result (open_answer l command)).value record { tag = record { 0 = tag }; line = line }

unfoldable pub open_call : Ledger → ℕ → ℕ → ℕ → OpenCall
open_call l command tag line =
    record {
      ledger = open_left l command (open_answer l command);
      tag = (place_or l command tag line).tag.0;
      line = (place_or l command tag line).line;
      number = (opened_result (open_answer l command)).number;
    }

unfoldable pub answer_call : Ledger → ℕ → ℕ → AnswerCall
answer_call l kind tag =
    record { ledger = answer_left l (verdict_of l kind (record { 0 = tag })); report = verdict_report (verdict_of l kind (record { 0 = tag })) }
