-- The event's own contract, with state and reply packed into words.
-- Assumes nothing.
use Rattle.ffi_device.specs.Calls.{request_call}
use Rattle.ffi_device.proofs.Calls.{request-left}
use Rattle.ffi_device.proofs.request.Goals as goal

pub returns : goal.returns
unfolding request_call
returns c =
    let device-of = c.device_of-d in
    let request = c.request-a in
    let g = rw device-of.ensures at request.ensures in
    request-left g.answers.returns (c.store.ensures.control_after, c.store.ensures.answer_after) g.packets g.answers.writes
