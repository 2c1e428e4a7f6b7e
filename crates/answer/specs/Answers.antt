-- The four answers and their payloads: P 6.7 to 6.10, the OK's payloads of P 6.2 and 6.3, and FORM of 01's table for them.
-- An answer is its value and the bytes that stay in the caller's memory: an RX's packet, an FSK configuration's sync word, the uids, and none for the rest.
-- Assumes nothing.
use Rattle.std.specs.Prelude.{ℕ, ◌+◌, cond, List, ◌++◌, ltb, eqb, length, replicate, drop}
use Rattle.status.specs.Refusals.{refusal_number}
use Rattle.status.specs.Result.{Result, took, refused_with}
use Rattle.status.specs.declared.Refusal.TheVariants as R
use Rattle.scalar.specs.Scalars.{Column, column, get, put}
use Rattle.form.specs.Forms.{at_least}
use Rattle.modulation.specs.Modulations.{config_form, config_of, config_bytes, sync_word}
use Rattle.form.specs.declared.Form.{Form}
use Rattle.form.specs.declared.Form.TheVariants as F
use Rattle.kind.specs.Kinds.{OK, ERR, RX, TX_DONE, is_answer}
use Rattle.kind.specs.declared.Name.{Name}
use Rattle.kind.specs.declared.Name.TheVariants as N
use Rattle.info.specs.Info.{info_form, info_of, info_bytes, mcu_uid_of, radio_uid_of}
use Rattle.rx.specs.Rx.{rx_form, rx_of, rx_bytes, rx_packet}
use Rattle.answer.specs.declared.Configured.{Configured}
use Rattle.answer.specs.declared.Answer.{Answer}
use Rattle.answer.specs.declared.Answer.TheVariants as A
use Rattle.answer.specs.declared.Answered.{Answered}
use Rattle.answer.specs.declared.Answered.TheVariants as D

-- P 6.3, the OK to SET_CONFIG: result (1), owner (1), then the configuration that is in effect
abbrev config_result : Column
config_result = column 0 1

abbrev owner : Column
owner = column 1 1

abbrev pub configured_size : ℕ
configured_size = 2

-- result and owner are 0 to 2
abbrev pub configured_max : ℕ
configured_max = 2

abbrev after : ℕ → Form → Form
after k (F.Size n) = F.Size (k + n)
after k F.Wrong = F.Wrong

unfoldable pub configured_form : List ℕ → Form
configured_form p =
    cond (ltb (length p) configured_size) F.Wrong
    (cond (ltb configured_max (get config_result p)) F.Wrong
    (cond (ltb configured_max (get owner p)) F.Wrong
    (after configured_size (config_form (drop configured_size p)))))

unfoldable pub configured_of : List ℕ → Configured
configured_of p =
    record { result = get config_result p; owner = get owner p; current = config_of (drop configured_size p) }

unfoldable pub configured_bytes : Configured → List ℕ → List ℕ
configured_bytes m word =
    put config_result m.result (put owner m.owner (replicate configured_size 0)) ++ config_bytes m.current word

-- P 6.8, ERR: code (2)
abbrev code : Column
code = column 0 2

abbrev pub err_size : ℕ
err_size = 2

-- P 6.10, TX_DONE: result (1), airtime_us (4)
abbrev pub done_result : Column
done_result = column 0 1

abbrev pub airtime_us : Column
airtime_us = column 1 4

abbrev pub tx_done_size : ℕ
tx_done_size = 5

-- the result is 0 to 2
abbrev pub tx_done_max : ℕ
tx_done_max = 2

unfoldable pub tx_done_form : List ℕ → Form
tx_done_form p =
    cond (ltb (length p) tx_done_size) F.Wrong
    (cond (ltb tx_done_max (get done_result p)) F.Wrong
    (F.Size tx_done_size))

unfoldable pub tx_done_bytes : ℕ → ℕ → List ℕ
tx_done_bytes r t = put done_result r (put airtime_us t (replicate tx_done_size 0))

-- P 6.7: the form of an OK's payload depends on the command that it answers
abbrev pub ok_form : Name → List ℕ → Form
ok_form N.Ping p = F.Size 0
ok_form N.GetInfo p = info_form p
ok_form N.SetConfig p = configured_form p
ok_form N.Tx p = F.Size 0
ok_form N.RxStart p = F.Size 0
ok_form N.RxStop p = F.Size 0

abbrev pub ok_of : Name → List ℕ → Answer
ok_of N.Ping p = A.Ok
ok_of N.GetInfo p = A.Info (info_of p)
ok_of N.SetConfig p = A.Configured (configured_of p)
ok_of N.Tx p = A.Ok
ok_of N.RxStart p = A.Ok
ok_of N.RxStop p = A.Ok

-- the form of an answer's payload, of an OK to the command of that name
unfoldable pub answer_form : ℕ → Name → List ℕ → Form
answer_form kind name p =
    cond (eqb kind OK) (ok_form name p)
    (cond (eqb kind ERR) (F.Size err_size)
    (cond (eqb kind RX) (rx_form p)
    (tx_done_form p)))

-- the answer in a payload of that form
unfoldable pub answer_of : ℕ → Name → List ℕ → Answer
answer_of kind name p =
    cond (eqb kind OK) (ok_of name p)
    (cond (eqb kind ERR) (A.Err (get code p))
    (cond (eqb kind RX) (A.Rx (rx_of p))
    (A.TxDone (get done_result p) (get airtime_us p))))

-- What reading a payload answers: TYPE, then FORM. The host ignores bytes after the known fields (01; P 16.4).
unfoldable pub read_answer : ℕ → Name → List ℕ → Answered
read_answer kind name p =
    cond (is_answer kind)
    (cond (at_least (answer_form kind name p) (length p)) (D.Answer (answer_of kind name p)) (D.Refused R.Form))
    (D.Refused R.Type)

-- what comes back: 01's number, and the answer
abbrev pub answered_result : Answered → Result Answer
answered_result (D.Answer a) = took a
answered_result (D.Refused r) = refused_with (refusal_number r)

-- the type of an answer
abbrev pub answer_kind : Answer → ℕ
answer_kind A.Ok = OK
answer_kind (A.Info m) = OK
answer_kind (A.Configured m) = OK
answer_kind (A.Err c) = ERR
answer_kind (A.Rx m) = RX
answer_kind (A.TxDone r t) = TX_DONE

-- the command that it is written with: of an OK one that has such an OK; for the others any would do
abbrev pub answer_name : Answer → Name
answer_name A.Ok = N.Ping
answer_name (A.Info m) = N.GetInfo
answer_name (A.Configured m) = N.SetConfig
answer_name (A.Err c) = N.Ping
answer_name (A.Rx m) = N.Ping
answer_name (A.TxDone r t) = N.Ping

-- the commands that an answer may be read with: an OK with those that have such an OK, and the others with every one
abbrev pub MayAnswer : Answer → Name → Type 0
MayAnswer A.Ok N.Ping = Unit {0}
MayAnswer A.Ok N.GetInfo = ⊥
MayAnswer A.Ok N.SetConfig = ⊥
MayAnswer A.Ok N.Tx = Unit {0}
MayAnswer A.Ok N.RxStart = Unit {0}
MayAnswer A.Ok N.RxStop = Unit {0}
MayAnswer (A.Info m) N.Ping = ⊥
MayAnswer (A.Info m) N.GetInfo = Unit {0}
MayAnswer (A.Info m) N.SetConfig = ⊥
MayAnswer (A.Info m) N.Tx = ⊥
MayAnswer (A.Info m) N.RxStart = ⊥
MayAnswer (A.Info m) N.RxStop = ⊥
MayAnswer (A.Configured m) N.Ping = ⊥
MayAnswer (A.Configured m) N.GetInfo = ⊥
MayAnswer (A.Configured m) N.SetConfig = Unit {0}
MayAnswer (A.Configured m) N.Tx = ⊥
MayAnswer (A.Configured m) N.RxStart = ⊥
MayAnswer (A.Configured m) N.RxStop = ⊥
MayAnswer (A.Err c) n = Unit {0}
MayAnswer (A.Rx m) n = Unit {0}
MayAnswer (A.TxDone r t) n = Unit {0}

-- its payload, with its bytes of variable length
unfoldable pub answer_bytes : Answer → List ℕ → List ℕ
answer_bytes A.Ok bytes = bytes
answer_bytes (A.Info m) bytes = info_bytes m bytes
answer_bytes (A.Configured m) bytes = configured_bytes m bytes
answer_bytes (A.Err c) bytes = put code c (replicate err_size 0) ++ bytes
answer_bytes (A.Rx m) bytes = rx_bytes m ++ bytes
answer_bytes (A.TxDone r t) bytes = tx_done_bytes r t ++ bytes

-- the bytes of variable length in a payload that has just an answer's form: a payload that has none is empty after its fields
abbrev ok_tail : Name → List ℕ → List ℕ
ok_tail N.Ping p = p
ok_tail N.GetInfo p = mcu_uid_of p ++ radio_uid_of p
ok_tail N.SetConfig p = sync_word (drop configured_size p)
ok_tail N.Tx p = p
ok_tail N.RxStart p = p
ok_tail N.RxStop p = p

unfoldable pub answer_tail : ℕ → Name → List ℕ → List ℕ
answer_tail kind name p =
    cond (eqb kind OK) (ok_tail name p)
    (cond (eqb kind ERR) (drop err_size p)
    (cond (eqb kind RX) (rx_packet p)
    (drop tx_done_size p)))
