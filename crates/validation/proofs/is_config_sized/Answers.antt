-- Each return is one row of the definition, with the bytes that the tests looked at.
-- Assumes nothing.
use native.Mathlib.Omega.{arith}
use Rattle.validation.proofs.Laws.{sized-lora, sized-short, sized-fsk}
use Rattle.validation.proofs.is_config_sized.Goals as goal

pub returns-then-id-eq-LORA : goal.returns-then-id-eq-LORA
returns-then-id-eq-LORA c =
    sized-lora c.args.payload.now (omega arith) c.if-id-eq-LORA.true

pub returns-then-n-lt-FSK_LEAST : goal.returns-then-n-lt-FSK_LEAST
returns-then-n-lt-FSK_LEAST c =
    let if2 = c.if-id-eq-LORA in
    sized-short c.args.payload.now (omega arith) if2.false c.if-n-lt-FSK_LEAST.true

pub returns : goal.returns
returns c =
    let if2 = c.if-id-eq-LORA in
    let if3 = c.if-n-lt-FSK_LEAST in
    sized-fsk c.args.payload.now (omega arith) if2.false if3.false
