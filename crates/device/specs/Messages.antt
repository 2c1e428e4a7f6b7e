-- The messages that the device writes, and their bytes: P 6.7 to 6.10.
-- Assumes nothing.
use Rattle.std.specs.Prelude.{ℕ, Bool, true, false, List, [], ◌∷◌, ◌++◌}
use Rattle.frame.specs.Body.{body}
use Rattle.frame.specs.Body as B
use Rattle.kind.specs.Kinds.{CANCELLED, APPLIED, MINE}
use Rattle.rx.specs.declared.Rx.{Rx}
use Rattle.answer.specs.Answers.{answer_kind, answer_bytes}
use Rattle.answer.specs.declared.Answer.{Answer}
use Rattle.answer.specs.declared.Answer.TheVariants as A
use Rattle.board.specs.Board.{Board, board_info, uids_of}
use Rattle.device.specs.State.{Setting, Packet}

-- ---- messages

-- a message: its tag, its value, and its bytes of variable length
pub record Message : Type 0 where
  pub tag : ℕ
  pub answer : Answer
  pub bytes : List ℕ

abbrev pub message : ℕ → Answer → List ℕ → Message
message t a bs = record { tag = t; answer = a; bytes = bs }

abbrev pub ok : ℕ → Message
ok t = message t A.Ok []

abbrev pub ok_info : Board → ℕ → Message
ok_info b t = message t (A.Info (board_info b)) (uids_of b)

-- result 0, owner 1 and the parameters
abbrev pub ok_configured : Setting → Message
ok_configured c =
    message c.tag (A.Configured (record { result = APPLIED; owner = MINE; current = c.config.modulation })) c.config.word

abbrev pub err : ℕ → ℕ → Message
err code t = message t (A.Err code) []

abbrev pub tx_done : ℕ → ℕ → ℕ → Message
tx_done result airtime t = message t (A.TxDone result airtime) []

-- TX_DONE 2 for each, in their order
abbrev pub cancelled : List ℕ → List Message
cancelled [] = []
cancelled (t ∷ ts) = tx_done CANCELLED 0 t ∷ cancelled ts

abbrev pub yes : Bool → ℕ
yes true = 1
yes false = 0

-- a packet with the drop count; origin is 0, and so is the tag
abbrev pub rx_value : Packet → ℕ → Rx
rx_value p n =
    record {
      rssi = p.rssi;
      snr = p.snr;
      freq_err = p.freq_err;
      timestamp_us = p.timestamp_us;
      crc_valid = yes p.crc_valid;
      packets_dropped = n;
      origin = 0;
    }

abbrev pub rx : Packet → ℕ → Message
rx p n = message 0 (A.Rx (rx_value p n)) p.bytes

-- ---- their bytes: the writers' own frames (crate writer, `writeLeft`), one after another

abbrev pub payload : Message → List ℕ
payload m = answer_bytes m.answer m.bytes

unfoldable pub message_bytes : Message → List ℕ
message_bytes m = B.frame (body (answer_kind m.answer) m.tag (payload m))

unfoldable pub messages_bytes : List Message → List ℕ
messages_bytes [] = []
messages_bytes (m ∷ ms) = message_bytes m ++ messages_bytes ms

-- ---- a message as it is seen on the wire: type, tag and payload

pub data Frame : Type 0 where
  frame : ℕ → ℕ → List ℕ → Frame

abbrev pub seen : Message → Frame
seen m = frame (answer_kind m.answer) m.tag (payload m)
