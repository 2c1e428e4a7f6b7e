-- Each event is what its own contract says.
-- Assumes nothing.
use mathlib.Core.Path.{refl}
use Rattle.machine.specs.Machine.{stepped, leaves}
use Rattle.machine.proofs.Laws.{left_by}
use Rattle.machine.proofs.step.Goals as goal

pub returns-in-Byte : goal.returns-in-Byte
unfolding stepped leaves
returns-in-Byte c =
    let byte = c.byte in
    let x = byte.ensures in
    rw c.in-Byte.is (left_by x.answers.returns x.run x.commands refl x.answers.writes)

pub returns-in-Tick : goal.returns-in-Tick
unfolding stepped leaves
returns-in-Tick c =
    rw c.in-Tick.is (left_by c.tick.ensures refl refl refl refl)

pub returns-in-Clear : goal.returns-in-Clear
unfolding stepped leaves
returns-in-Clear c =
    rw c.in-Clear.is (left_by c.clear.ensures refl refl refl refl)

pub returns-in-Busy : goal.returns-in-Busy
unfolding stepped leaves
returns-in-Busy c =
    let busy = c.busy in
    let x = busy.ensures in
    rw c.in-Busy.is (left_by x.returns refl refl refl x.writes)

pub returns-in-Sent : goal.returns-in-Sent
unfolding stepped leaves
returns-in-Sent c =
    let sent = c.sent in
    let x = sent.ensures in
    rw c.in-Sent.is (left_by x.returns refl refl refl x.writes)

pub returns-in-Configured : goal.returns-in-Configured
unfolding stepped leaves
returns-in-Configured c =
    let configured = c.configured in
    let x = configured.ensures in
    rw c.in-Configured.is (left_by x.returns refl refl refl x.writes)

pub returns-in-Fault : goal.returns-in-Fault
unfolding stepped leaves
returns-in-Fault c =
    let fault = c.fault in
    let x = fault.ensures in
    rw c.in-Fault.is (left_by x.returns refl refl refl x.writes)

pub returns-in-Packet : goal.returns-in-Packet
unfolding stepped leaves
returns-in-Packet c =
    let x = c.packet.ensures in
    rw c.in-Packet.is (left_by x.returns refl refl x.packets refl)

pub returns-in-Request : goal.returns-in-Request
unfolding stepped leaves
returns-in-Request c =
    let request = c.request in
    let x = request.ensures in
    rw c.in-Request.is (left_by x.answers.returns refl refl x.packets x.answers.writes)

pub returns-in-Disconnect : goal.returns-in-Disconnect
unfolding stepped leaves
returns-in-Disconnect c =
    rw c.in-Disconnect.is (left_by c.disconnect.ensures refl refl refl refl)
