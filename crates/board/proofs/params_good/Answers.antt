-- Each modulation by its own function.
-- Assumes nothing.
use Rattle.board.specs.Params.{params_good}
use Rattle.board.proofs.params_good.Goals as goal

pub returns-in-Lora : goal.returns-in-Lora
unfolding params_good
returns-in-Lora c = rw c.in-Lora.is c.lora_good.ensures

pub returns-in-Fsk : goal.returns-in-Fsk
unfolding params_good
returns-in-Fsk c = rw c.in-Fsk.is c.fsk_good.ensures
