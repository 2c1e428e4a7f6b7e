-- The event's own contract, with state and reply packed into words.
-- Assumes nothing.
use Rattle.ffi_device.specs.Calls.{state_call}
use Rattle.ffi_device.proofs.Calls.{state-left}
use Rattle.ffi_radio.proofs.clear.Goals as goal

pub returns : goal.returns
unfolding state_call
returns c =
    let device-of = c.device_of-d in
    let clear = c.clear-a in
    state-left (rw device-of.ensures at clear.ensures) (c.store.ensures.control_after, c.store.ensures.answer_after)
