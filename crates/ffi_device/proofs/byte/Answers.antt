-- The contracts of the two ways that a byte goes, with state and reply packed into words.
-- Assumes nothing.
use mathlib.Core.Path.{refl}
use Rattle.link.proofs.Laws.{join-byte, join-writes-nothing}
use Rattle.control.proofs.Laws.{silently}
use Rattle.ffi_device.specs.Calls.{byte_call}
use Rattle.ffi_device.proofs.Calls.{byte_left}
use Rattle.ffi_device.proofs.byte.Goals as goal

pub returns-then-b-eq0 : goal.returns-then-b-eq0
unfolding byte_call
returns-then-b-eq0 c =
    let if1 = c.if-b-eq0 in
    let device-of = c.device_of-d in
    let zero = c.zero-a in
    let g = rw device-of.ensures at zero.ensures in
    rw if1.true (byte_left g.answers.returns (c.store.ensures.control_after, c.store.ensures.answer_after) g.run g.commands g.answers.writes)

pub returns : goal.returns
unfolding byte_call
returns c =
    let a = c.args in
    let if1 = c.if-b-eq0 in
    let device-of2 = c.device_of-d-2 in
    let join = c.join-a in
    let j = rw device-of2.ensures at join.ensures in
    rw (join-byte _ a.run.now a.commands.now _ a.b if1.false)
    (byte_left j.returns (c.store-2.ensures.control_after, c.store-2.ensures.answer_after) j.run_after refl
    (silently _ _ (join-writes-nothing _ a.b a.run.now _) j.returns).writes)
