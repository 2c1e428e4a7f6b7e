-- The payload of the case that the match found.
-- Assumes nothing.
use Rattle.modulation.specs.Modulations.{config_bytes}
use Rattle.modulation.proofs.put_config.Goals as goal

pub put_parts-requires : goal.put_parts-requires
unfolding config_bytes
put_parts-requires c =
    let lora-bytes = c.lora_bytes-bytes in
    rw lora-bytes.ensures (rw c.in-Lora.is at c.requires)

pub put_parts-requires-in-Fsk : goal.put_parts-requires-in-Fsk
unfolding config_bytes
put_parts-requires-in-Fsk c =
    let fsk-bytes = c.fsk_bytes-bytes in
    rw fsk-bytes.ensures (rw c.in-Fsk.is at c.requires)

pub returns-in-Lora : goal.returns-in-Lora
unfolding config_bytes
returns-in-Lora c =
    let lora-bytes = c.lora_bytes-bytes in
    let put-parts = c.put_parts in
    record {
      value = rw (c.in-Lora.is, ← lora-bytes.ensures) put-parts.ensures.value;
      dst_after = rw (c.in-Lora.is, ← lora-bytes.ensures)
          put-parts.ensures.dst_after;
    }

pub returns-in-Fsk : goal.returns-in-Fsk
unfolding config_bytes
returns-in-Fsk c =
    let fsk-bytes = c.fsk_bytes-bytes in
    let put-parts2 = c.put_parts-in-Fsk in
    record {
      value = rw (c.in-Fsk.is, ← fsk-bytes.ensures) put-parts2.ensures.value;
      dst_after = rw (c.in-Fsk.is, ← fsk-bytes.ensures)
          put-parts2.ensures.dst_after;
    }
