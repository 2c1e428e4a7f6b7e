-- Bytes that are too long for any message have no right form; else the payload is put together, and written as any payload.
-- Assumes nothing.
use mathlib.Core.Path.{◌≡◌, sym, ap, ◌∙◌}
use native.Mathlib.Omega.{arith}
use lib.ListN.{take, replicate}
use lib.Seq.{length-take-le}
use Rattle.frame.specs.Writing.{written_result}
use Rattle.frame.proofs.Laws.{take-laid}
use Rattle.command.specs.Commands.{command_bytes, command_kind}
use Rattle.command.proofs.Laws.{command-is, command-length, command-long}
use Rattle.wellformed.specs.Checking.{has, form_of, fits_written}
use Rattle.wellformed.specs.declared.Kinds.TheVariants as K
use Rattle.compose.proofs.Steps.{wrong-frame}
use Rattle.compose.proofs.write_command.Goals as goal

pub returns-then-bytes-gt-PACKET_MAX : goal.returns-then-bytes-gt-PACKET_MAX
unfolding has form_of fits_written
returns-then-bytes-gt-PACKET_MAX c =
    let s = c.args in
    let command-kind = c.command_kind-kind in
    let if1 = c.if-bytes-gt-PACKET_MAX in
    let bs = command_bytes s.c s.bytes.now in
    let long = command-long s.c s.bytes.now if1.true in
    let l = wrong-frame K.Commands (command_kind s.c) s.tag bs s.dst.now (command-is s.c) long in
    record { result_value = ap written_result (rw command-kind.ensures at c.too_long.ensures ∙ l.0); dst_after = l.1 }

pub put_command-n-requires : goal.put_command-n-requires
put_command-n-requires c =
    let s = c.args in
    omega (arith, (command-length s.c s.bytes.now).0, c.if-bytes-gt-PACKET_MAX.false)

pub slice_bounds-memory-end : goal.slice_bounds-memory-end
slice_bounds-memory-end c =
    let s = c.args in
    let if1 = c.if-bytes-gt-PACKET_MAX in
    let put-command = c.put_command-n in
    rw (put-command.auto.dst, put-command.ensures.value) (omega (arith, (command-length s.c s.bytes.now).0, if1.false))

pub slice_bounds-write-end : goal.slice_bounds-write-end
slice_bounds-write-end c =
    let s = c.args in
    let if1 = c.if-bytes-gt-PACKET_MAX in
    let w = c.put_command-n in
    let n = (command-length s.c s.bytes.now).0 in
    sym (length-take-le w.result w.new.dst (rw (w.auto.dst, w.ensures.value) (omega (arith, n, if1.false))))

pub returns : goal.returns
returns c =
    let s = c.args in
    let command-kind = c.command_kind-kind in
    let w = c.put_command-n in
    let write = c.write in
    let bs = command_bytes s.c s.bytes.now in
    let p : take w.result w.new.dst ≡ bs = rw (w.ensures.value, w.ensures.dst_after) (take-laid bs (replicate 292 0)) in
    record { result_value = rw (command-kind.ensures, p) at write.ensures.result_value; dst_after = rw (command-kind.ensures, p) at write.ensures.dst_after }
