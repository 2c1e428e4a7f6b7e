-- With a TX that listens its TX_DONE is said first; the other arms are the definition's.
-- Assumes nothing.
use native.Mathlib.Omega.{arith}
use Rattle.emit.proofs.Laws.{sent-one, length-done}
use Rattle.control.proofs.Laws.{quiet, then, gives}
use Rattle.queue.specs.Queue.{begin}
use Rattle.dispatch.specs.Commands.{on_set}
use Rattle.dispatch.proofs.Taking.{sets-later, sets-now}
use Rattle.dispatch.proofs.set_config.Goals as goal

pub configure-requires : goal.configure-requires
configure-requires c =
    let w = c.write_tx_done-w in
    omega (arith, length-done 2 0 c.in-Listening.t, w.ensures.ends, w.auto, c.requires.room_min_in_bounds)

pub returns-in-Listening : goal.returns-in-Listening
unfolding on_set begin
returns-in-Listening c =
    let keep = c.keep in
    let empty-ring = c.empty_ring-emptied in
    let with-inbox = c.with_inbox-e in
    let write-tx-done = c.write_tx_done-w in
    let configure = c.configure in
    let k = keep.ensures in
    record {
      gives = rw c.in-Listening.is (then (sent-one write-tx-done.ensures) (rw (k, with-inbox.ensures, empty-ring.ensures) at configure.ensures));
      commands = k;
    }

pub returns-in-OnAir : goal.returns-in-OnAir
unfolding on_set
returns-in-OnAir c =
    let keep = c.keep in
    let empty-ring = c.empty_ring-emptied in
    let with-inbox = c.with_inbox-e in
    let with-air = c.with_air-f in
    record {
      gives =
          gives _ (sets-later _ _ c.args.d.air.radio c.in-OnAir.is)
          (quiet _ _ _ _ (rw (with-air.ensures, with-inbox.ensures, empty-ring.ensures) at c.done.ensures));
      commands = keep.ensures;
    }

pub returns-in_default : goal.returns-in_default
unfolding on_set
returns-in_default c =
    let keep = c.keep in
    let empty-ring = c.empty_ring-emptied in
    let with-inbox = c.with_inbox-e in
    let configure2 = c.configure-in_default in
    let k = keep.ensures in
    record {
      gives = gives _ (sets-now _ _ c.args.d.air.radio c.in_default.not-Listening c.in_default.not-OnAir c.in_default.not-Orphan)
          (rw (k, with-inbox.ensures, empty-ring.ensures) at configure2.ensures);
      commands = k;
    }
