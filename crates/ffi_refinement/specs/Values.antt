-- An event that C passes is a value of its type: the statement, of every call of the three functions whose events have numbers. CallIn asks nothing of the
-- seven others. proofs/ has it proved, as `values-in`.
-- Assumes nothing.
use Rattle.std.specs.Prelude.{ℕ, List}
use Rattle.device.specs.State as S
use Rattle.inbox.specs.Packets.{received_packet}
use Rattle.ffi_device.specs.Calls.{call}
use Rattle.ffi_radio.specs.PacketStatus.{status_in}
use Rattle.donglora.specs.contracts.event.donglora_byte as donglora-byte
use Rattle.donglora.specs.contracts.event.donglora_sent as donglora-sent
use Rattle.donglora.specs.contracts.event.donglora_packet as donglora-packet
use Rattle.refinement.specs.Refines.{CallIn}
use Rattle.refinement.specs.Values.{EveryCall}

-- values-in: the second argument, a.1.0, is the byte, the airtime or the status of a packet; a packet's bytes and the output may be any
pub record ValuesIn : Type 2 where
  pub byte : EveryCall donglora-byte.signature (λ κs a. (o : List ℕ) → CallIn (call (S.byte a.1.0) o))
  pub sent : EveryCall donglora-sent.signature (λ κs a. (o : List ℕ) → CallIn (call (S.sent a.1.0) o))
  pub packet : EveryCall donglora-packet.signature (λ κs a. (bs o : List ℕ) → CallIn (call (S.packet (received_packet (status_in a.1.0) bs)) o))
