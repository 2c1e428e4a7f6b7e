-- Each arm is the definition's, by the error code and the type. A command without an error has a payload that fits its slot.
-- Assumes nothing.
use Rattle.emit.proofs.Laws.{sent-one}
use Rattle.control.proofs.Laws.{spoken}
use Rattle.dispatch.proofs.Laws.{rules, rules-only, as_err, set-fits, as-tx, as-set, as_plain}
use Rattle.dispatch.proofs.dispatch.Goals as goal

pub returns-then-code-ne-NO_ERROR : goal.returns-then-code-ne-NO_ERROR
returns-then-code-ne-NO_ERROR c =
    let is-unconfigured = c.is_unconfigured-unconfigured in
    let count-open = c.count_open-count in
    let error-code = c.error_code-code in
    let if1 = c.if-code-ne-NO_ERROR in
    let write-err = c.write_err-w in
    rules _ (as_err _ _ _ is-unconfigured.ensures count-open.ensures error-code.ensures _ _ if1.true)
    (rules-only (spoken _ _ (sent-one write-err.ensures) c.done.ensures))

pub returns-then-kind-eq-TX : goal.returns-then-kind-eq-TX
returns-then-kind-eq-TX c =
    let is-unconfigured = c.is_unconfigured-unconfigured in
    let count-open = c.count_open-count in
    let error-code = c.error_code-code in
    let if1 = c.if-code-ne-NO_ERROR in
    let if2 = c.if-kind-eq-TX in
    let tx = c.tx in
    rules _ (as-tx _ _ _ is-unconfigured.ensures count-open.ensures error-code.ensures _ _ if1.false if2.true) tx.ensures

pub set_config-requires : goal.set_config-requires
set_config-requires c =
    let is-unconfigured = c.is_unconfigured-unconfigured in
    let count-open = c.count_open-count in
    let error-code = c.error_code-code in
    let if1 = c.if-code-ne-NO_ERROR in
    let if3 = c.if-kind-eq-SET_CONFIG in
    let s = c.args in
    record {
      room_min_in_bounds = c.requires;
      in_bounds = set-fits s.kind s.payload.now s.d is-unconfigured.ensures count-open.ensures error-code.ensures
          if1.false if3.true;
    }

pub returns-then-kind-eq-SET_CONFIG : goal.returns-then-kind-eq-SET_CONFIG
returns-then-kind-eq-SET_CONFIG c =
    let is-unconfigured = c.is_unconfigured-unconfigured in
    let count-open = c.count_open-count in
    let error-code = c.error_code-code in
    let if1 = c.if-code-ne-NO_ERROR in
    let if2 = c.if-kind-eq-TX in
    let if3 = c.if-kind-eq-SET_CONFIG in
    let set_config = c.set_config in
    rules _ (as-set _ _ _ is-unconfigured.ensures count-open.ensures error-code.ensures _ _ if1.false if2.false if3.true) set_config.ensures

pub returns : goal.returns
returns c =
    let is-unconfigured = c.is_unconfigured-unconfigured in
    let count-open = c.count_open-count in
    let error-code = c.error_code-code in
    let if1 = c.if-code-ne-NO_ERROR in
    let if2 = c.if-kind-eq-TX in
    let if3 = c.if-kind-eq-SET_CONFIG in
    let at-once = c.at_once in
    rules _
    (as_plain _ _ _ is-unconfigured.ensures count-open.ensures error-code.ensures _ _ if1.false if2.false if3.false)
    (rules-only at-once.ensures)
