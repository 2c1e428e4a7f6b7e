-- The six commands and their payloads: P 6.1 to 6.6, and FORM of 01's table for them.
-- A command is its value and the bytes that stay in the caller's memory: a TX's packet, an FSK configuration's sync word, and none for the rest.
-- Assumes nothing.
use Rattle.std.specs.Prelude.{ℕ, ◌+◌, cond, List, ◌++◌, ltb, eqb, length, replicate, drop}
use Rattle.status.specs.Refusals.{refusal_number}
use Rattle.status.specs.Result.{Result, took, refused_with}
use Rattle.status.specs.declared.Refusal.TheVariants as R
use Rattle.scalar.specs.Scalars.{Column, column, get, put}
use Rattle.form.specs.Forms.{exactly}
use Rattle.modulation.specs.Modulations.{config_form, config_of, config_bytes, sync_word}
use Rattle.form.specs.declared.Form.{Form}
use Rattle.form.specs.declared.Form.TheVariants as F
use Rattle.kind.specs.Kinds.{PING, GET_INFO, SET_CONFIG, TX, RX_START, RX_STOP, packet_max, is_command}
use Rattle.command.specs.declared.Command.{Command}
use Rattle.command.specs.declared.Command.TheVariants as C
use Rattle.command.specs.declared.Asked.{Asked}
use Rattle.command.specs.declared.Asked.TheVariants as A

-- P 6.4: flags (1), then the packet, of 1 to 255 bytes. Of the flags only bit 0 is used.
abbrev pub flags : Column
flags = column 0 1

abbrev pub flags_size : ℕ
flags_size = 1

abbrev pub flags_max : ℕ
flags_max = 1

unfoldable pub tx_form : List ℕ → Form
tx_form p =
    cond (ltb (length p) (flags_size + 1)) F.Wrong
    (cond (ltb (flags_size + packet_max) (length p)) F.Wrong
    (cond (ltb flags_max (get flags p)) F.Wrong
    (F.Size (length p))))

unfoldable pub tx_bytes : ℕ → List ℕ → List ℕ
tx_bytes f packet = put flags f (replicate flags_size 0) ++ packet

-- a TX's packet
abbrev pub packet_of : List ℕ → List ℕ
packet_of p = drop flags_size p

-- the form of a command's payload: PING, GET_INFO, RX_START and RX_STOP have none
unfoldable pub command_form : ℕ → List ℕ → Form
command_form kind p =
    cond (eqb kind SET_CONFIG) (config_form p)
    (cond (eqb kind TX) (tx_form p)
    (F.Size 0))

-- the command in a payload of that form
unfoldable pub command_of : ℕ → List ℕ → Command
command_of kind p =
    cond (eqb kind PING) C.Ping
    (cond (eqb kind GET_INFO) C.GetInfo
    (cond (eqb kind SET_CONFIG) (C.SetConfig (config_of p))
    (cond (eqb kind TX) (C.Tx (get flags p))
    (cond (eqb kind RX_START) C.RxStart
    C.RxStop))))

-- what reading a payload answers: TYPE, then FORM; a command's size is exact
unfoldable pub read_command : ℕ → List ℕ → Asked
read_command kind p =
    cond (is_command kind)
    (cond (exactly (command_form kind p) (length p)) (A.Command (command_of kind p)) (A.Refused R.Form))
    (A.Refused R.Type)

-- what comes back: 01's number, and the command
abbrev pub asked_result : Asked → Result Command
asked_result (A.Command c) = took c
asked_result (A.Refused r) = refused_with (refusal_number r)

-- the type of a command
abbrev pub command_kind : Command → ℕ
command_kind C.Ping = PING
command_kind C.GetInfo = GET_INFO
command_kind (C.SetConfig m) = SET_CONFIG
command_kind (C.Tx f) = TX
command_kind C.RxStart = RX_START
command_kind C.RxStop = RX_STOP

-- its payload, with its bytes of variable length
unfoldable pub command_bytes : Command → List ℕ → List ℕ
command_bytes C.Ping bytes = bytes
command_bytes C.GetInfo bytes = bytes
command_bytes (C.SetConfig m) bytes = config_bytes m bytes
command_bytes (C.Tx f) bytes = tx_bytes f bytes
command_bytes C.RxStart bytes = bytes
command_bytes C.RxStop bytes = bytes

-- the bytes of variable length in a payload of a command's form: a payload that has none is empty
unfoldable pub command_tail : ℕ → List ℕ → List ℕ
command_tail kind p =
    cond (eqb kind SET_CONFIG) (sync_word p)
    (cond (eqb kind TX) (packet_of p)
    p)
