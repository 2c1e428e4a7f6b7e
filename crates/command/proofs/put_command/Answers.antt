-- By the case that the match found: each writes the bytes that the definition has for it.
-- Assumes nothing.
use mathlib.Core.Path.{refl}
use native.Mathlib.Nat.{zero-add}
use Rattle.command.specs.Commands.{command_bytes}
use Rattle.command.proofs.Laws.{bytes-alone}
use Rattle.command.proofs.put_command.Goals as goal

pub put_config-requires : goal.put_config-requires
unfolding command_bytes
put_config-requires c =
    rw zero-add (rw c.in-SetConfig.is at c.requires)

pub put_tx-requires : goal.put_tx-requires
unfolding command_bytes
put_tx-requires c =
    rw c.in-Tx.is at c.requires

pub copy-requires : goal.copy-requires
copy-requires c =
    let e = bytes-alone c.args.c c.args.bytes.now c.in_default.not-SetConfig c.in_default.not-Tx in
    rw zero-add (rw e at c.requires)

pub returns-in-SetConfig : goal.returns-in-SetConfig
unfolding command_bytes
returns-in-SetConfig c =
    let put-config = c.put_config in
    record { value = rw c.in-SetConfig.is (rw zero-add at put-config.ensures.value); dst_after = rw c.in-SetConfig.is (put-config.ensures.dst_after) }

pub returns-in-Tx : goal.returns-in-Tx
unfolding command_bytes
returns-in-Tx c =
    let put-tx = c.put_tx in
    record { value = rw c.in-Tx.is put-tx.ensures.value; dst_after = rw c.in-Tx.is put-tx.ensures.dst_after }

pub returns-in_default : goal.returns-in_default
returns-in_default c =
    let copy = c.copy in
    let e = bytes-alone c.args.c c.args.bytes.now c.in_default.not-SetConfig c.in_default.not-Tx in
    record { value = rw e (refl); dst_after = rw e (copy.ensures) }
