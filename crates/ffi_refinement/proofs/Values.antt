-- An event that C passes is a value of its type.
-- The idea is that of crate refinement: it is read off what the type of the second argument owns of it.
-- Assumes nothing.
use native.Mathlib.Omega.{arith}
use Rattle.ffi_radio.specs.PacketStatus.{status_in}
use Rattle.donglora.specs.contracts.event.donglora_byte as donglora-byte
use Rattle.donglora.specs.contracts.event.donglora_sent as donglora-sent
use Rattle.donglora.specs.contracts.event.donglora_packet as donglora-packet
use Rattle.refinement.proofs.Values.{every_call}
use Rattle.ffi_refinement.specs.Values.{ValuesIn}

pub values-in : ValuesIn
unfolding status_in
values-in =
    record {
      byte = every_call donglora-byte.signature _ (λ κs a vss h o. omega (arith, h.1.0));
      sent = every_call donglora-sent.signature _ (λ κs a vss h o. omega (arith, h.1.0));
      packet = every_call donglora-packet.signature _ (λ κs a vss h bs o. omega (arith, h.1.0));
    }
