-- The event's own contract, with state and reply packed into words.
-- Assumes nothing.
use Rattle.ffi_device.specs.Calls.{outcome_call}
use Rattle.ffi_device.proofs.Calls.{outcome-left}
use Rattle.ffi_radio.proofs.busy.Goals as goal

pub returns : goal.returns
unfolding outcome_call
returns c =
    let device-of = c.device_of-d in
    let busy = c.busy-a in
    let g = rw device-of.ensures at busy.ensures in
    outcome-left g.returns (c.store.ensures.control_after, c.store.ensures.answer_after) g.writes
