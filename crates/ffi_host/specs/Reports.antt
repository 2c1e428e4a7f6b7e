-- What C gets of a message, by value: its fields with 01's number before them. A refused read has zeros beside its number.
-- Assumes nothing.
use Rattle.std.specs.Prelude.{ℕ, ◌-◌, cond, List, eqb, length}
use Rattle.status.specs.Result.{Result, value_or}
use Rattle.scalar.specs.Scalars.{get}
use Rattle.frame.specs.Reading.{Head}
use Rattle.rx.specs.Rx.{rx_size, rx_of}
use Rattle.answer.specs.Answers.{done_result, airtime_us}
use Rattle.kind.specs.Kinds.{GET_INFO, SET_CONFIG}
use Rattle.kind.specs.declared.Name.{Name}
use Rattle.kind.specs.declared.Name.TheVariants.{Ping, GetInfo, SetConfig}
use Rattle.reader.specs.Reading.{part_by}
use Rattle.ffi_host.specs.declared.MessageReport.{MessageReport}
use Rattle.ffi_host.specs.declared.RxReport.{RxReport}
use Rattle.ffi_host.specs.declared.TxDoneReport.{TxDoneReport}

-- the command that a number names, where an OK is read: two have an OK with a layout, and all others are as PING
abbrev pub name_in : ℕ → Name
name_in n = cond (eqb n GET_INFO) GetInfo (cond (eqb n SET_CONFIG) SetConfig Ping)

-- the head of the body that was read, or zeros
abbrev head_of : Result Head → Head
head_of x = value_or x.value record { kind = 0; tag = 0; len = 0 }

-- reading the frame of any answer
unfoldable pub message_report : Result Head → MessageReport
message_report x = record { number = x.number; kind = (head_of x).kind; tag = (head_of x).tag; payload_len = (head_of x).len }

-- a number, and the payload p of an RX: of no bytes each field is 0
unfoldable pub rx_fields : ℕ → List ℕ → RxReport
rx_fields n p =
    record {
      number = n;
      rssi = (rx_of p).rssi;
      snr = (rx_of p).snr;
      freq_err = (rx_of p).freq_err;
      timestamp_us = (rx_of p).timestamp_us;
      crc_valid = (rx_of p).crc_valid;
      packets_dropped = (rx_of p).packets_dropped;
      origin = (rx_of p).origin;
      packet_len = length p - rx_size;
    }

-- reading its frame, with the body b
unfoldable pub rx_report : Result Head → List ℕ → RxReport
rx_report x b = rx_fields x.number (part_by x.value b)

-- a number, and the tag and the payload p of a TX_DONE
unfoldable pub tx_done_fields : ℕ → ℕ → List ℕ → TxDoneReport
tx_done_fields n tag p = record { number = n; tag = tag; result = get done_result p; airtime_us = get airtime_us p }

-- reading its frame, with the body b
unfoldable pub tx_done_report : Result Head → List ℕ → TxDoneReport
tx_done_report x b = tx_done_fields x.number (head_of x).tag (part_by x.value b)
