-- The test is the definition's, and so are the places of sf and bw.
-- Assumes nothing.
use borrow.Author.Tests.{eq-eqb, ne_eqb}
use Rattle.queue.specs.Queue.{ldro_at}
use Rattle.queue.proofs.ldro.Goals as goal

pub returns-then-id-eq-LORA : goal.returns-then-id-eq-LORA
unfolding ldro_at
returns-then-id-eq-LORA c =
    let if1 = c.if-id-eq-LORA in
    simp (eq-eqb _ _ if1.true) c.slow.ensures

pub returns : goal.returns
unfolding ldro_at
returns c =
    simp (ne_eqb _ _ c.if-id-eq-LORA.false)
