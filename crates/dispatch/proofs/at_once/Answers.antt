-- Each arm is the definition's, by the type.
-- Assumes nothing.
use Rattle.answer.specs.Answers.{answer_bytes}
use Rattle.emit.proofs.Laws.{sent-one}
use Rattle.control.proofs.Laws.{gives, spoken}
use Rattle.dispatch.proofs.Laws.{as-start, as-stop, as-info, as-ping}
use Rattle.dispatch.proofs.at_once.Goals as goal

pub returns-then-kind-eq-RX_START : goal.returns-then-kind-eq-RX_START
returns-then-kind-eq-RX_START c =
    let if1 = c.if-kind-eq-RX_START in
    let turn = c.turn in
    gives _ (as-start _ _ _ if1.true) turn.ensures

pub returns-then-kind-eq-RX_STOP : goal.returns-then-kind-eq-RX_STOP
returns-then-kind-eq-RX_STOP c =
    let if1 = c.if-kind-eq-RX_START in
    let if2 = c.if-kind-eq-RX_STOP in
    let turn2 = c.turn-then-kind-eq-RX_STOP in
    gives _ (as-stop _ _ _ if1.false if2.true) turn2.ensures

pub returns-then-kind-eq-GET_INFO : goal.returns-then-kind-eq-GET_INFO
unfolding answer_bytes
returns-then-kind-eq-GET_INFO c =
    let if1 = c.if-kind-eq-RX_START in
    let if2 = c.if-kind-eq-RX_STOP in
    let if3 = c.if-kind-eq-GET_INFO in
    let info = c.info-info in
    let write = c.write-w in
    gives _ (as-info _ _ _ if1.false if2.false if3.true) (spoken _ _ (sent-one (rw info.ensures at write.ensures)) c.done.ensures)

pub returns : goal.returns
returns c =
    let if1 = c.if-kind-eq-RX_START in
    let if2 = c.if-kind-eq-RX_STOP in
    let if3 = c.if-kind-eq-GET_INFO in
    let write-ok = c.write_ok-w in
    gives _ (as-ping _ _ _ if1.false if2.false if3.false) (spoken _ _ (sent-one write-ok.ensures) c.done-2.ensures)
