-- First the ERR, then the report, and then all goes on as after a TX. The two take 21 bytes at most, so what comes then has room.
-- Assumes nothing.
use native.Mathlib.Omega.{arith}
use Rattle.kind.specs.Kinds.{CANCELLED}
use Rattle.emit.proofs.Laws.{sent-one, length-done}
use Rattle.control.proofs.Laws.{then}
use Rattle.outcome.proofs.Laws.{fault-bounded, from_start}
use Rattle.outcome.proofs.lost.Goals as goal

pub write_tx_done-v-requires : goal.write_tx_done-v-requires
write_tx_done-v-requires c =
    let write-fault = c.write_fault-w in
    let n = fault-bounded c.args.d.link.session 0 in
    omega (arith, write-fault.ensures.value, write-fault.auto, c.requires)

pub after_tx-requires : goal.after_tx-requires
after_tx-requires c =
    let write-fault = c.write_fault-w in
    let write-tx-done = c.write_tx_done-v in
    let n = fault-bounded c.args.d.link.session 0 in
    let k = length-done CANCELLED 0 c.args.tag in
    omega (arith, write-fault.ensures.value, write-fault.auto, write-tx-done.ensures.ends, write-tx-done.auto, c.requires)

pub returns : goal.returns
returns c =
    let write-fault = c.write_fault-w in
    let write-tx-done = c.write_tx_done-v in
    let after-tx = c.after_tx in
    then (from_start (write-fault.ensures.value, write-fault.ensures.out_after)) (then (sent-one write-tx-done.ensures) after-tx.ensures)
