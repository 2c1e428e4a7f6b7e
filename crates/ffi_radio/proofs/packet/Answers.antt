-- The event's own contract, with state and reply packed into words.
-- Assumes nothing.
use Rattle.ffi_device.specs.Calls.{packet_call}
use Rattle.ffi_device.proofs.Calls.{packet-left}
use Rattle.ffi_radio.proofs.packet.Goals as goal

pub returns : goal.returns
unfolding packet_call
returns c =
    let device-of = c.device_of-d in
    let status-of = c.status_of-h in
    let packet = c.packet-a in
    let g = rw (device-of.ensures, status-of.ensures) at packet.ensures in
    packet-left g.returns (c.store.ensures.control_after, c.store.ensures.answer_after) g.packets
